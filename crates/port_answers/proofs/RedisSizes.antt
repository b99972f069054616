-- How long the rows in redis-sentinel's words may be.
use Rattle.std.proofs.Common.{ℕ, ◌+◌, ◌≤◌, ◌<◌, ◌^◌, Bool, true, false, List, [], ◌∷◌, ◌++◌, length, ap, arith, length-append, decimal}
use Rattle.std.specs.Prelude.{codes, Option, Some, None}
use Rattle.ballot_law.specs.declared.addresses.Addr.{Addr}
use Rattle.ballot_law.specs.declared.addresses.RunId.{RunId}
use Rattle.ballot_law.specs.declared.replies.DataRole.{DataRole}
use Rattle.ballot_law.specs.declared.replies.DataRole.TheVariants.{Master, Replica}
use Rattle.ballot_law.specs.Words.{ip_text, id_text}
use Rattle.ballot_law.proofs.WordLemmas.{length-id_text}
use Rattle.resp2.specs.Framing.Frame.{frames_of, count, spelling, line_end}
use Rattle.resp2.proofs.Asks.{ip_size}
use Rattle.resp2.proofs.AskFrames.{decimal_short}
use Rattle.port_answers.specs.declared.known_rows.ContactRow.{ContactRow}
use Rattle.port_answers.specs.declared.known_rows.SaidRow.{SaidRow}
use Rattle.port_answers.specs.declared.known_rows.LinkRow.{LinkRow}
use Rattle.port_answers.specs.declared.known_rows.FailoverStage.{FailoverStage}
use Rattle.port_answers.specs.declared.known_rows.FailoverStage.TheVariants.{NoFailover, WaitStart, SelectReplica, SendPromotion, WaitPromotion, ReconfReplicas, UpdateConfig}
use Rattle.port_answers.specs.declared.rows.MasterRow.{MasterRow}
use Rattle.port_answers.specs.declared.rows.ReplicaRow.{ReplicaRow}
use Rattle.port_answers.specs.declared.rows.SentinelRow.{SentinelRow}
use Rattle.port_answers.specs.Answers.{bulks, fields_text, addr_text, node_flags, master_flags}
use Rattle.port_answers.specs.RedisRows.{id_words, role_name, stage_name, link_name, yes_or_no, leader_name, field_if, head_fields, ping_fields, after_fields, said_fields, setting_fields, host_fields, link_fields, offer_fields, vote_fields, redis_master_fields, redis_replica_fields, redis_sentinel_fields, redis_master_frame, redis_replica_frame, redis_sentinel_frame}
use Rattle.port_answers.specs.Limits.{IsPlace, IsPlaceIfAny, IsContactRow, IsSaidRow, IsLinkRow, IsMasterRow, IsReplicaRow, IsSentinelRow}
use Rattle.port_answers.proofs.FieldLemmas.{fields_text-append}
use Rattle.port_answers.proofs.RedisRowLemmas.{one_at_most, master_items, replica_items, sentinel_items}
use Rattle.port_answers.proofs.Sizes.{port_size, addr_size, master_flags_size, node_flags_size, fields_size, short, array_size, two_digits, at_most}

-- ---- words

id_size : (id : Option RunId) → length (id_words id) ≤ 40
id_size None = omega arith
id_size (Some id) = omega (arith, length-id_text id)

leader_size : (id : Option RunId) → length (leader_name id) ≤ 40
leader_size None = omega arith
leader_size (Some id) = omega (arith, length-id_text id)

role_size : (role : DataRole) → length (role_name role) ≤ 6
role_size Master = omega arith
role_size Replica = omega arith

stage_size : (stage : FailoverStage) → length (stage_name stage) ≤ 18
stage_size NoFailover = omega arith
stage_size WaitStart = omega arith
stage_size SelectReplica = omega arith
stage_size SendPromotion = omega arith
stage_size WaitPromotion = omega arith
stage_size ReconfReplicas = omega arith
stage_size UpdateConfig = omega arith

link_size : (up : Bool) → length (link_name up) ≤ 3
link_size true = omega arith
link_size false = omega arith

yes_size : (b : Bool) → length (yes_or_no b) ≤ 1
yes_size true = omega arith
yes_size false = omega arith

-- ---- fields

if_size : (b : Bool) (name value : List ℕ) (most : ℕ) → length name ≤ 99 → length value ≤ 99 → length name + length value + 14 ≤ most →
    length (fields_text (field_if b name value)) ≤ most
if_size true name value most h k room =
    at_most (length (fields_text (field_if true name value))) (length name + 7 + (length value + 7) + 0) most
    (fields_size ((name, value) ∷ []) (short name value h k, tt)) (omega arith)
if_size false name value most h k room = omega arith

head_size : (name : List ℕ) (addr : Addr) (id flags : List ℕ) (shared : ℕ) → length name ≤ 64 → IsPlace addr → length id ≤ 40 → length flags ≤ 54 → shared < 2 ^ 64 →
    length (fields_text (head_fields name addr id flags shared)) ≤ length name + length id + length flags + 193
head_size name addr id flags shared h place i f s =
    let ip = ip_size addr.ip place.ip in
    let port = port_size addr.port place.port in
    let refs = decimal_short shared s in
    let size =
    fields_size (head_fields name addr id flags shared) (
      short (codes "name") name (omega arith) (omega arith),
      (
        short (codes "ip") (ip_text addr.ip) (omega arith) (omega arith),
        (
          short (codes "port") (decimal addr.port) (omega arith) (omega arith),
          (
            short (codes "runid") id (omega arith) (omega arith),
            (
              short (codes "flags") flags (omega arith) (omega arith),
              (
                short (codes "link-pending-commands") (codes "0") (omega arith) (omega arith),
                (short (codes "link-refcount") (decimal shared) (omega arith) (omega arith), tt),
              ),
            ),
          ),
        ),
      ),
    )
    in
    omega arith

pings_size : (contact : ContactRow) → IsContactRow contact → length (fields_text (ping_fields contact)) ≤ 149
pings_size contact h =
    let sent = decimal_short contact.ping_ms h.ping_ms in
    let valid = decimal_short contact.valid_ms h.valid_ms in
    let reply = decimal_short contact.reply_ms h.reply_ms in
    let size =
    fields_size (ping_fields contact) (
      short (codes "last-ping-sent") (decimal contact.ping_ms) (omega arith) (omega arith),
      (
        short (codes "last-ok-ping-reply") (decimal contact.valid_ms) (omega arith) (omega arith),
        (short (codes "last-ping-reply") (decimal contact.reply_ms) (omega arith) (omega arith), tt),
      ),
    )
    in
    omega arith

after_size : (after_ms : ℕ) → after_ms < 2 ^ 64 → length (fields_text (after_fields after_ms)) ≤ 57
after_size after_ms h =
    let after = decimal_short after_ms h in
    let size = fields_size (after_fields after_ms) (short (codes "down-after-milliseconds") (decimal after_ms) (omega arith) (omega arith), tt) in
    omega arith

said_size : (said : SaidRow) → IsSaidRow said → length (fields_text (said_fields said)) ≤ 131
said_size said h =
    let info = decimal_short said.info_ms h.info_ms in
    let role = role_size said.role in
    let since = decimal_short said.role_ms h.role_ms in
    let size =
    fields_size (said_fields said) (
      short (codes "info-refresh") (decimal said.info_ms) (omega arith) (omega arith),
      (
        short (codes "role-reported") (role_name said.role) (omega arith) (omega arith),
        (short (codes "role-reported-time") (decimal said.role_ms) (omega arith) (omega arith), tt),
      ),
    )
    in
    omega arith

settings_size : (row : MasterRow) → IsMasterRow row → length (fields_text (setting_fields row)) ≤ 281
settings_size row h =
    let epoch = decimal_short row.epoch h.epoch in
    let replicas = decimal_short row.replicas h.replicas in
    let others = decimal_short row.others h.others in
    let quorum = decimal_short row.quorum h.quorum in
    let timeout = decimal_short row.timeout h.timeout in
    let syncs = decimal_short row.parallel_syncs h.parallel_syncs in
    let size =
    fields_size (setting_fields row) (
      short (codes "config-epoch") (decimal row.epoch) (omega arith) (omega arith),
      (
        short (codes "num-slaves") (decimal row.replicas) (omega arith) (omega arith),
        (
          short (codes "num-other-sentinels") (decimal row.others) (omega arith) (omega arith),
          (
            short (codes "quorum") (decimal row.quorum) (omega arith) (omega arith),
            (
              short (codes "failover-timeout") (decimal row.timeout) (omega arith) (omega arith),
              (short (codes "parallel-syncs") (decimal row.parallel_syncs) (omega arith) (omega arith), tt),
            ),
          ),
        ),
      ),
    )
    in
    omega arith

host_size : (master : Option Addr) → IsPlaceIfAny master → length (fields_text (host_fields master)) ≤ 70
host_size None h =
    let size =
    fields_size (host_fields None) (
      short (codes "master-host") (codes "?") (omega arith) (omega arith),
      (short (codes "master-port") (codes "0") (omega arith) (omega arith), tt),
    )
    in
    omega arith
host_size (Some addr) h =
    let ip = ip_size addr.ip h.ip in
    let port = port_size addr.port h.port in
    let size =
    fields_size (host_fields (Some addr)) (
      short (codes "master-host") (ip_text addr.ip) (omega arith) (omega arith),
      (short (codes "master-port") (decimal addr.port) (omega arith) (omega arith), tt),
    )
    in
    omega arith

-- two parts of a row
two_sizes : (a b : List (List ℕ × List ℕ)) (k m : ℕ) → length (fields_text a) ≤ k → length (fields_text b) ≤ m → length (fields_text (a ++ b)) ≤ k + m
two_sizes a b k m f g =
    let whole = ap (λ (t : List ℕ). length t) (fields_text-append a b) in
    omega (arith, length-append (fields_text a) (fields_text b))

links_size : (link : LinkRow) → IsLinkRow link → length (fields_text (link_fields link)) ≤ 161
links_size link h =
    let down = decimal_short link.down_ms h.down_ms in
    let up = link_size link.up in
    let front = (codes "master-link-down-time", decimal link.down_ms) ∷ (codes "master-link-status", link_name link.up) ∷ [] in
    let size =
    fields_size front (
      short (codes "master-link-down-time") (decimal link.down_ms) (omega arith) (omega arith),
      (short (codes "master-link-status") (link_name link.up) (omega arith) (omega arith), tt),
    )
    in
    let first : length (fields_text front) ≤ 91 = omega arith in
    at_most (length (fields_text (link_fields link))) (91 + 70) 161 (two_sizes front (host_fields link.master) 91 70 first (host_size link.master h.master)) (omega arith)

offer_size : (priority offset : ℕ) (announced : Bool) → priority < 2 ^ 64 → offset < 2 ^ 64 → length (fields_text (offer_fields priority offset announced)) ≤ 131
offer_size priority offset announced h k =
    let first = decimal_short priority h in
    let second = decimal_short offset k in
    let third = yes_size announced in
    let size =
    fields_size (offer_fields priority offset announced) (
      short (codes "slave-priority") (decimal priority) (omega arith) (omega arith),
      (
        short (codes "slave-repl-offset") (decimal offset) (omega arith) (omega arith),
        (short (codes "replica-announced") (yes_or_no announced) (omega arith) (omega arith), tt),
      ),
    )
    in
    omega arith

vote_size : (row : SentinelRow) → IsSentinelRow row → length (fields_text (vote_fields row)) ≤ 170
vote_size row h =
    let hello = decimal_short row.hello_ms h.hello_ms in
    let leader = leader_size row.leader in
    let epoch = decimal_short row.leader_epoch h.leader_epoch in
    let size =
    fields_size (vote_fields row) (
      short (codes "last-hello-message") (decimal row.hello_ms) (omega arith) (omega arith),
      (
        short (codes "voted-leader") (leader_name row.leader) (omega arith) (omega arith),
        (short (codes "voted-leader-epoch") (decimal row.leader_epoch) (omega arith) (omega arith), tt),
      ),
    )
    in
    omega arith

-- ---- rows

-- an array of fields
sized_array : (n : ℕ) (fields : List (List ℕ × List ℕ)) (size most : ℕ) → n ≤ 99 → length (fields_text fields) ≤ size → size + 5 ≤ most →
    length (42 ∷ ((decimal n ++ line_end) ++ fields_text fields)) ≤ most
sized_array n fields size most h all room =
    at_most (length (42 ∷ ((decimal n ++ line_end) ++ fields_text fields))) (2 + size + 3) most
    (array_size n (fields_text fields) 2 size (two_digits n h) all) (omega arith)

pub redis_master_size : (row : MasterRow) → IsMasterRow row → length (spelling (redis_master_frame row)) ≤ 1110
redis_master_size row h =
    let flags = master_flags row.down row.odown row.disconnected row.failing_over in
    let id = id_words row.said.id in
    let head = head_fields row.name row.addr id flags 1 in
    let stage = field_if row.failing_over (codes "failover-state") (stage_name row.stage) in
    let down = field_if row.down (codes "s-down-time") (decimal row.contact.down_ms) in
    let odown = field_if row.odown (codes "o-down-time") (decimal row.odown_ms) in
    let i = id_size row.said.id in
    let f = master_flags_size row.down row.odown row.disconnected row.failing_over in
    let w = stage_size row.stage in
    let d = decimal_short row.contact.down_ms h.contact.down_ms in
    let o = decimal_short row.odown_ms h.odown_ms in
    let heads = head_size row.name row.addr id flags 1 h.name h.addr i f (omega arith) in
    let first : length (fields_text head) ≤ 351 = let n = h.name in omega arith in
    let items = master_items row in
    let few : count (frames_of (bulks (redis_master_fields row))) ≤ 99 =
    let a = one_at_most row.failing_over in
    let b = one_at_most row.down in
    let c = one_at_most row.odown in
    omega arith
    in
    sized_array (count (frames_of (bulks (redis_master_fields row)))) (redis_master_fields row) 1105 1110 few
    (two_sizes head (stage ++ (ping_fields row.contact ++ (down ++ (odown ++ (after_fields row.after_ms ++ (said_fields row.said ++ setting_fields row)))))) 351 754 first
    (two_sizes stage (ping_fields row.contact ++ (down ++ (odown ++ (after_fields row.after_ms ++ (said_fields row.said ++ setting_fields row))))) 46 708
    (if_size row.failing_over (codes "failover-state") (stage_name row.stage) 46 (omega arith) (omega arith) (omega arith))
    (two_sizes (ping_fields row.contact) (down ++ (odown ++ (after_fields row.after_ms ++ (said_fields row.said ++ setting_fields row)))) 149 559
    (pings_size row.contact h.contact)
    (two_sizes down (odown ++ (after_fields row.after_ms ++ (said_fields row.said ++ setting_fields row))) 45 514
    (if_size row.down (codes "s-down-time") (decimal row.contact.down_ms) 45 (omega arith) (omega arith) (omega arith))
    (two_sizes odown (after_fields row.after_ms ++ (said_fields row.said ++ setting_fields row)) 45 469
    (if_size row.odown (codes "o-down-time") (decimal row.odown_ms) 45 (omega arith) (omega arith) (omega arith))
    (two_sizes (after_fields row.after_ms) (said_fields row.said ++ setting_fields row) 57 412 (after_size row.after_ms h.after_ms)
    (two_sizes (said_fields row.said) (setting_fields row) 131 281 (said_size row.said h.said) (settings_size row h)))))))) (omega arith)

pub redis_replica_size : (row : ReplicaRow) → IsReplicaRow row → length (spelling (redis_replica_frame row)) ≤ 958
redis_replica_size row h =
    let flags = node_flags row.down row.disconnected (codes "slave") in
    let id = id_words row.said.id in
    let name = addr_text row.addr in
    let head = head_fields name row.addr id flags 1 in
    let down = field_if row.down (codes "s-down-time") (decimal row.contact.down_ms) in
    let offer = offer_fields row.priority row.offset row.link.announced in
    let i = id_size row.said.id in
    let f = node_flags_size row.down row.disconnected (codes "slave") in
    let n = addr_size row.addr h.addr in
    let d = decimal_short row.contact.down_ms h.contact.down_ms in
    let heads = head_size name row.addr id flags 1 (omega arith) h.addr i (omega arith) (omega arith) in
    let first : length (fields_text head) ≤ 279 = omega arith in
    let items = replica_items row in
    let few : count (frames_of (bulks (redis_replica_fields row))) ≤ 99 = let b = one_at_most row.down in omega arith in
    sized_array (count (frames_of (bulks (redis_replica_fields row)))) (redis_replica_fields row) 953 958 few
    (two_sizes head (ping_fields row.contact ++ (down ++ (after_fields row.after_ms ++ (said_fields row.said ++ (link_fields row.link ++ offer))))) 279 674 first
    (two_sizes (ping_fields row.contact) (down ++ (after_fields row.after_ms ++ (said_fields row.said ++ (link_fields row.link ++ offer)))) 149 525
    (pings_size row.contact h.contact)
    (two_sizes down (after_fields row.after_ms ++ (said_fields row.said ++ (link_fields row.link ++ offer))) 45 480
    (if_size row.down (codes "s-down-time") (decimal row.contact.down_ms) 45 (omega arith) (omega arith) (omega arith))
    (two_sizes (after_fields row.after_ms) (said_fields row.said ++ (link_fields row.link ++ offer)) 57 423 (after_size row.after_ms h.after_ms)
    (two_sizes (said_fields row.said) (link_fields row.link ++ offer) 131 292 (said_size row.said h.said)
    (two_sizes (link_fields row.link) offer 161 131 (links_size row.link h.link) (offer_size row.priority row.offset row.link.announced h.priority h.offset)))))))
    (omega arith)

pub redis_sentinel_size : (row : SentinelRow) → IsSentinelRow row → length (spelling (redis_sentinel_frame row)) ≤ 727
redis_sentinel_size row h =
    let flags = node_flags row.down row.disconnected (codes "sentinel") in
    let id = id_text row.id in
    let head = head_fields id row.addr id flags row.masters in
    let down = field_if row.down (codes "s-down-time") (decimal row.contact.down_ms) in
    let i = length-id_text row.id in
    let f = node_flags_size row.down row.disconnected (codes "sentinel") in
    let d = decimal_short row.contact.down_ms h.contact.down_ms in
    let heads = head_size id row.addr id flags row.masters (omega arith) h.addr (omega arith) (omega arith) h.masters in
    let first : length (fields_text head) ≤ 301 = omega arith in
    let items = sentinel_items row in
    let few : count (frames_of (bulks (redis_sentinel_fields row))) ≤ 99 = let b = one_at_most row.down in omega arith in
    sized_array (count (frames_of (bulks (redis_sentinel_fields row)))) (redis_sentinel_fields row) 722 727 few
    (two_sizes head (ping_fields row.contact ++ (down ++ (after_fields row.after_ms ++ vote_fields row))) 301 421 first
    (two_sizes (ping_fields row.contact) (down ++ (after_fields row.after_ms ++ vote_fields row)) 149 272 (pings_size row.contact h.contact)
    (two_sizes down (after_fields row.after_ms ++ vote_fields row) 45 227
    (if_size row.down (codes "s-down-time") (decimal row.contact.down_ms) 45 (omega arith) (omega arith) (omega arith))
    (two_sizes (after_fields row.after_ms) (vote_fields row) 57 170 (after_size row.after_ms h.after_ms) (vote_size row h)))))
    (omega arith)
