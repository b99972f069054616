-- How many fields the rows in redis-sentinel's words have.
use Rattle.std.proofs.Common.{◌≡◌, ℕ, ◌+◌, ◌*◌, ◌≤◌, Bool, true, false, List, [], ◌∷◌, ◌++◌, length, refl, arith, length-append, suc-mul}
use Rattle.resp2.specs.Framing.Frame.{frames_of, count}
use Rattle.port_answers.specs.declared.rows.MasterRow.{MasterRow}
use Rattle.port_answers.specs.declared.rows.ReplicaRow.{ReplicaRow}
use Rattle.port_answers.specs.declared.rows.SentinelRow.{SentinelRow}
use Rattle.port_answers.specs.Answers.{bulks, addr_text, node_flags, master_flags}
use Rattle.port_answers.specs.RedisRows.{id_words, stage_name, one_if, field_if, head_fields, ping_fields, after_fields, said_fields, setting_fields, host_fields, link_fields, offer_fields, vote_fields, redis_master_fields, redis_replica_fields, redis_sentinel_fields}
use Rattle.std.specs.Prelude.{codes, decimal, Option, Some, None}
use Rattle.ballot_law.specs.Words.{id_text}
use Rattle.ballot_law.specs.declared.addresses.Addr.{Addr}

-- each field is two bulk strings
count_bulks : (fields : List (List ℕ × List ℕ)) → count (frames_of (bulks fields)) ≡ length fields * 2
count_bulks [] = refl
count_bulks (field ∷ fields) = omega (arith, suc-mul (length fields) 2, count_bulks fields)

if_count : (b : Bool) (name value : List ℕ) → length (field_if b name value) ≡ one_if b
if_count true name value = refl
if_count false name value = refl

pub one_at_most : (b : Bool) → one_if b ≤ 1
one_at_most true = omega arith
one_at_most false = omega arith

host_count : (master : Option Addr) → length (host_fields master) ≡ 2
host_count None = refl
host_count (Some addr) = refl

five_parts : (a b c d e : List (List ℕ × List ℕ)) → length (a ++ (b ++ (c ++ (d ++ e)))) ≡ length a + length b + length c + length d + length e
five_parts a b c d e = omega (arith, length-append a (b ++ (c ++ (d ++ e))), length-append b (c ++ (d ++ e)), length-append c (d ++ e), length-append d e)

pub master_items : (row : MasterRow) → (20 + one_if row.failing_over + one_if row.down + one_if row.odown) * 2 ≡ count (frames_of (bulks (redis_master_fields row)))
master_items row =
    let head = head_fields row.name row.addr (id_words row.said.id) (master_flags row.down row.odown row.disconnected row.failing_over) 1 in
    let stage = field_if row.failing_over (codes "failover-state") (stage_name row.stage) in
    let down = field_if row.down (codes "s-down-time") (decimal row.contact.down_ms) in
    let odown = field_if row.odown (codes "o-down-time") (decimal row.odown_ms) in
    let rest = after_fields row.after_ms ++ (said_fields row.said ++ setting_fields row) in
    let first = five_parts head stage (ping_fields row.contact) down (odown ++ rest) in
    let fields = count_bulks (redis_master_fields row) in
    let last = length-append odown rest in
    let s = if_count row.failing_over (codes "failover-state") (stage_name row.stage) in
    let d = if_count row.down (codes "s-down-time") (decimal row.contact.down_ms) in
    let o = if_count row.odown (codes "o-down-time") (decimal row.odown_ms) in
    omega arith

pub replica_items : (row : ReplicaRow) → (21 + one_if row.down) * 2 ≡ count (frames_of (bulks (redis_replica_fields row)))
replica_items row =
    let head = head_fields (addr_text row.addr) row.addr (id_words row.said.id) (node_flags row.down row.disconnected (codes "slave")) 1 in
    let down = field_if row.down (codes "s-down-time") (decimal row.contact.down_ms) in
    let offer = offer_fields row.priority row.offset row.link.announced in
    let rest = said_fields row.said ++ (link_fields row.link ++ offer) in
    let first = five_parts head (ping_fields row.contact) down (after_fields row.after_ms) rest in
    let fields = count_bulks (redis_replica_fields row) in
    let links = length-append (link_fields row.link) offer in
    let d = if_count row.down (codes "s-down-time") (decimal row.contact.down_ms) in
    let host = host_count row.link.master in
    omega arith

pub sentinel_items : (row : SentinelRow) → (14 + one_if row.down) * 2 ≡ count (frames_of (bulks (redis_sentinel_fields row)))
sentinel_items row =
    let head = head_fields (id_text row.id) row.addr (id_text row.id) (node_flags row.down row.disconnected (codes "sentinel")) row.masters in
    let down = field_if row.down (codes "s-down-time") (decimal row.contact.down_ms) in
    let first = five_parts head (ping_fields row.contact) down (after_fields row.after_ms) (vote_fields row) in
    let fields = count_bulks (redis_sentinel_fields row) in
    let d = if_count row.down (codes "s-down-time") (decimal row.contact.down_ms) in
    omega arith

-- the same, counted by parts
pub master_total : (row : MasterRow) (a b c : ℕ) → a ≡ one_if row.failing_over → b ≡ one_if row.down → c ≡ one_if row.odown
    → (20 + a + b + c) * 2 ≡ count (frames_of (bulks (redis_master_fields row)))
master_total row a b c e f g = let items = master_items row in omega (arith, e, f, g)

pub replica_total : (row : ReplicaRow) (b : ℕ) → b ≡ one_if row.down → (21 + b) * 2 ≡ count (frames_of (bulks (redis_replica_fields row)))
replica_total row b f = let items = replica_items row in omega (arith, f)

pub sentinel_total : (row : SentinelRow) (b : ℕ) → b ≡ one_if row.down → (14 + b) * 2 ≡ count (frames_of (bulks (redis_sentinel_fields row)))
sentinel_total row b f = let items = sentinel_items row in omega (arith, f)
