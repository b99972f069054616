-- The answers about masters, replicas and Sentinels in redis-sentinel's words: its fields, in its order.
use Rattle.std.specs.Prelude.{ℕ, ◌+◌, ◌/◌, Bool, true, false, nat_lt, Option, Some, None, List, [], ◌∷◌, ◌++◌, map, codes, decimal}
use Rattle.ballot_law.specs.declared.addresses.Addr.{Addr}
use Rattle.ballot_law.specs.declared.addresses.RunId.{RunId}
use Rattle.ballot_law.specs.declared.replies.DataRole.{DataRole}
use Rattle.ballot_law.specs.declared.replies.DataRole.TheVariants.{Master, Replica}
use Rattle.ballot_law.specs.Words.{ip_text, id_text}
use Rattle.resp2.specs.Framing.Frame.{Frame, simple, fault, items, frames_of}
use Rattle.port_answers.specs.declared.known_rows.ContactRow.{ContactRow}
use Rattle.port_answers.specs.declared.known_rows.SaidRow.{SaidRow}
use Rattle.port_answers.specs.declared.known_rows.LinkRow.{LinkRow}
use Rattle.port_answers.specs.declared.known_rows.FailoverStage.{FailoverStage}
use Rattle.port_answers.specs.declared.known_rows.FailoverStage.TheVariants.{NoFailover, WaitStart, SelectReplica, SendPromotion, WaitPromotion, ReconfReplicas, UpdateConfig}
use Rattle.port_answers.specs.declared.rows.MasterRow.{MasterRow}
use Rattle.port_answers.specs.declared.rows.ReplicaRow.{ReplicaRow}
use Rattle.port_answers.specs.declared.rows.SentinelRow.{SentinelRow}
use Rattle.port_answers.specs.Answers.{fields_frame, addr_text, node_flags, master_flags}

-- ---- words

-- a run id that isn't known is no text
abbrev pub id_words : Option RunId → List ℕ
id_words None = []
id_words (Some id) = id_text id

abbrev pub role_name : DataRole → List ℕ
role_name Master = codes "master"
role_name Replica = codes "slave"

abbrev pub stage_name : FailoverStage → List ℕ
stage_name NoFailover = codes "none"
stage_name WaitStart = codes "wait_start"
stage_name SelectReplica = codes "select_slave"
stage_name SendPromotion = codes "send_slaveof_noone"
stage_name WaitPromotion = codes "wait_promotion"
stage_name ReconfReplicas = codes "reconf_slaves"
stage_name UpdateConfig = codes "update_config"

abbrev pub link_name : (up : Bool) → List ℕ
link_name true = codes "ok"
link_name false = codes "err"

abbrev pub yes_or_no : Bool → List ℕ
yes_or_no true = codes "1"
yes_or_no false = codes "0"

-- ---- fields

-- a field that is shown where something holds
abbrev pub field_if : Bool → (name value : List ℕ) → List (List ℕ × List ℕ)
field_if true name value = (name, value) ∷ []
field_if false name value = []

abbrev pub one_if : Bool → ℕ
one_if true = 1
one_if false = 0

-- of any node; how many commands wait on the connection isn't known
abbrev pub head_fields : (name : List ℕ) → Addr → (id flags : List ℕ) → (shared : ℕ) → List (List ℕ × List ℕ)
head_fields name addr id flags shared =
    (codes "name", name)
    ∷ (codes "ip", ip_text addr.ip)
    ∷ (codes "port", decimal addr.port)
    ∷ (codes "runid", id)
    ∷ (codes "flags", flags)
    ∷ (codes "link-pending-commands", codes "0")
    ∷ (codes "link-refcount", decimal shared)
    ∷ []

abbrev pub ping_fields : ContactRow → List (List ℕ × List ℕ)
ping_fields contact =
    (codes "last-ping-sent", decimal contact.ping_ms)
    ∷ (codes "last-ok-ping-reply", decimal contact.valid_ms)
    ∷ (codes "last-ping-reply", decimal contact.reply_ms)
    ∷ []

abbrev pub after_fields : (after_ms : ℕ) → List (List ℕ × List ℕ)
after_fields after_ms = (codes "down-after-milliseconds", decimal after_ms) ∷ []

-- of masters and replicas
abbrev pub said_fields : SaidRow → List (List ℕ × List ℕ)
said_fields said =
    (codes "info-refresh", decimal said.info_ms)
    ∷ (codes "role-reported", role_name said.role)
    ∷ (codes "role-reported-time", decimal said.role_ms)
    ∷ []

-- of masters
abbrev pub setting_fields : MasterRow → List (List ℕ × List ℕ)
setting_fields row =
    (codes "config-epoch", decimal row.epoch)
    ∷ (codes "num-slaves", decimal row.replicas)
    ∷ (codes "num-other-sentinels", decimal row.others)
    ∷ (codes "quorum", decimal row.quorum)
    ∷ (codes "failover-timeout", decimal row.timeout)
    ∷ (codes "parallel-syncs", decimal row.parallel_syncs)
    ∷ []

-- of replicas: an address that isn't known is a question mark and 0
abbrev pub host_fields : Option Addr → List (List ℕ × List ℕ)
host_fields None = (codes "master-host", codes "?") ∷ (codes "master-port", codes "0") ∷ []
host_fields (Some addr) = (codes "master-host", ip_text addr.ip) ∷ (codes "master-port", decimal addr.port) ∷ []

abbrev pub link_fields : LinkRow → List (List ℕ × List ℕ)
link_fields link =
    (codes "master-link-down-time", decimal link.down_ms)
    ∷ (codes "master-link-status", link_name link.up)
    ∷ host_fields link.master

abbrev pub offer_fields : (priority offset : ℕ) → (announced : Bool) → List (List ℕ × List ℕ)
offer_fields priority offset announced =
    (codes "slave-priority", decimal priority)
    ∷ (codes "slave-repl-offset", decimal offset)
    ∷ (codes "replica-announced", yes_or_no announced)
    ∷ []

-- of Sentinels
abbrev pub leader_name : Option RunId → List ℕ
leader_name None = codes "?"
leader_name (Some id) = id_text id

abbrev pub vote_fields : SentinelRow → List (List ℕ × List ℕ)
vote_fields row =
    (codes "last-hello-message", decimal row.hello_ms)
    ∷ (codes "voted-leader", leader_name row.leader)
    ∷ (codes "voted-leader-epoch", decimal row.leader_epoch)
    ∷ []

-- ---- rows

abbrev pub redis_master_fields : MasterRow → List (List ℕ × List ℕ)
redis_master_fields row =
    head_fields row.name row.addr (id_words row.said.id) (master_flags row.down row.odown row.disconnected row.failing_over) 1
    ++ (field_if row.failing_over (codes "failover-state") (stage_name row.stage)
    ++ (ping_fields row.contact
    ++ (field_if row.down (codes "s-down-time") (decimal row.contact.down_ms)
    ++ (field_if row.odown (codes "o-down-time") (decimal row.odown_ms)
    ++ (after_fields row.after_ms ++ (said_fields row.said ++ setting_fields row))))))

abbrev pub redis_master_frame : MasterRow → Frame
redis_master_frame row = fields_frame (redis_master_fields row)

abbrev pub redis_replica_fields : ReplicaRow → List (List ℕ × List ℕ)
redis_replica_fields row =
    head_fields (addr_text row.addr) row.addr (id_words row.said.id) (node_flags row.down row.disconnected (codes "slave")) 1
    ++ (ping_fields row.contact
    ++ (field_if row.down (codes "s-down-time") (decimal row.contact.down_ms)
    ++ (after_fields row.after_ms
    ++ (said_fields row.said ++ (link_fields row.link ++ offer_fields row.priority row.offset row.link.announced)))))

abbrev pub redis_replica_frame : ReplicaRow → Frame
redis_replica_frame row = fields_frame (redis_replica_fields row)

abbrev pub redis_sentinel_fields : SentinelRow → List (List ℕ × List ℕ)
redis_sentinel_fields row =
    head_fields (id_text row.id) row.addr (id_text row.id) (node_flags row.down row.disconnected (codes "sentinel")) row.masters
    ++ (ping_fields row.contact
    ++ (field_if row.down (codes "s-down-time") (decimal row.contact.down_ms) ++ (after_fields row.after_ms ++ vote_fields row)))

abbrev pub redis_sentinel_frame : SentinelRow → Frame
redis_sentinel_frame row = fields_frame (redis_sentinel_fields row)

-- ---- lists of rows

abbrev pub redis_masters_frame : List MasterRow → Frame
redis_masters_frame rows = items (frames_of (map redis_master_frame rows))

abbrev pub redis_replicas_frame : List ReplicaRow → Frame
redis_replicas_frame rows = items (frames_of (map redis_replica_frame rows))

abbrev pub redis_sentinels_frame : List SentinelRow → Frame
redis_sentinels_frame rows = items (frames_of (map redis_sentinel_frame rows))

-- ---- whether enough Sentinels can be reached

-- so many Sentinels can be reached, and that is enough
abbrev pub redis_quorum_reached : (usable : ℕ) → Frame
redis_quorum_reached usable = simple (codes "OK " ++ (decimal usable ++ codes " usable Sentinels. Quorum and failover authorization can be reached"))

-- why so many aren't: fewer than the quorum, fewer than more than half of all, or both
abbrev pub shortfall : (few_for_quorum few_for_majority : Bool) → List ℕ
shortfall true true =
    codes " usable Sentinels. Not enough available Sentinels to reach the specified quorum for this master. Not enough available Sentinels to reach the majority and authorize a failover"
shortfall true false = codes " usable Sentinels. Not enough available Sentinels to reach the specified quorum for this master"
shortfall false true = codes " usable Sentinels. Not enough available Sentinels to reach the majority and authorize a failover"
shortfall false false = codes " usable Sentinels. "

abbrev pub redis_no_quorum : (usable quorum sentinels : ℕ) → Frame
redis_no_quorum usable quorum sentinels =
    fault (codes "NOQUORUM " ++ (decimal usable ++ shortfall (nat_lt usable quorum) (nat_lt usable (sentinels / 2 + 1))))
