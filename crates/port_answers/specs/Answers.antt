-- The answers of a Sentinel's port about masters, replicas and Sentinels, and its short answers.
use Rattle.std.specs.Prelude.{ℕ, Bool, true, false, pos, List, [], ◌∷◌, ◌++◌, map, codes, decimal}
use Rattle.ballot_law.specs.declared.addresses.Addr.{Addr}
use Rattle.ballot_law.specs.declared.addresses.RunId.{RunId}
use Rattle.ballot_law.specs.Words.{ip_text, id_text}
use Rattle.resp2.specs.Framing.Frame.{Frame, simple, fault, int, bulk, items, frames_of, spellings, line_end}
use Rattle.resp2.specs.Commands.{channel}
use Rattle.resp2.specs.declared.command.CommandFault.{CommandFault}
use Rattle.resp2.specs.declared.command.CommandFault.TheVariants.{NotACommand, UnknownCommand, WrongArguments, BadAddress, BadEpoch, BadRunId, UnknownChannel}
use Rattle.port_answers.specs.declared.rows.MasterRow.{MasterRow}
use Rattle.port_answers.specs.declared.rows.ReplicaRow.{ReplicaRow}
use Rattle.port_answers.specs.declared.rows.SentinelRow.{SentinelRow}

-- ---- fields

-- each field's name and then its value, as bulk strings
abbrev pub bulks : List (List ℕ × List ℕ) → List Frame
bulks [] = []
bulks (field ∷ fields) = bulk field.0 ∷ bulk field.1 ∷ bulks fields

abbrev pub fields_frame : List (List ℕ × List ℕ) → Frame
fields_frame fields = items (frames_of (bulks fields))

abbrev pub fields_text : List (List ℕ × List ℕ) → List ℕ
fields_text fields = spellings (frames_of (bulks fields))

abbrev pub addr_fields : Addr → List (List ℕ × List ℕ)
addr_fields addr = (codes "ip", ip_text addr.ip) ∷ (codes "port", decimal addr.port) ∷ []

-- an address as `ip:port`
abbrev pub addr_text : Addr → List ℕ
addr_text addr = ip_text addr.ip ++ 58 ∷ decimal addr.port

-- ---- flags

-- the words, with a comma between two of them
abbrev pub joined : List (List ℕ) → List ℕ
joined [] = []
joined (word ∷ []) = word
joined (word ∷ next ∷ words) = word ++ 44 ∷ joined (next ∷ words)

-- the flag, where it holds
abbrev pub flag : Bool → List ℕ → List (List ℕ)
flag true name = name ∷ []
flag false name = []

-- the kind of the node, that it is down before it, and that the connection to it was lost behind it
abbrev pub node_flags : (down disconnected : Bool) → List ℕ → List ℕ
node_flags down disconnected kind = joined (flag down (codes "s_down") ++ kind ∷ flag disconnected (codes "disconnected"))

-- a master also shows that enough Sentinels find it down, and that its failover runs
abbrev pub master_flags : (down odown disconnected failing_over : Bool) → List ℕ
master_flags down odown disconnected failing_over =
    joined
    (flag down (codes "s_down")
    ++ (flag odown (codes "o_down")
    ++ codes "master" ∷ (flag disconnected (codes "disconnected") ++ flag failing_over (codes "failover_in_progress"))))

-- ---- rows

abbrev pub master_fields : MasterRow → List (List ℕ × List ℕ)
master_fields row =
    (codes "name", row.name)
    ∷ (codes "ip", ip_text row.addr.ip)
    ∷ (codes "port", decimal row.addr.port)
    ∷ (codes "flags", master_flags row.down row.odown row.disconnected row.failing_over)
    ∷ (codes "num-slaves", decimal row.replicas)
    ∷ (codes "num-other-sentinels", decimal row.others)
    ∷ (codes "quorum", decimal row.quorum)
    ∷ (codes "down-after-milliseconds", decimal row.after_ms)
    ∷ (codes "failover-timeout", decimal row.timeout)
    ∷ (codes "parallel-syncs", decimal row.parallel_syncs)
    ∷ (codes "config-epoch", decimal row.epoch)
    ∷ []

abbrev pub master_frame : MasterRow → Frame
master_frame row = fields_frame (master_fields row)

abbrev pub replica_fields : ReplicaRow → List (List ℕ × List ℕ)
replica_fields row =
    (codes "name", addr_text row.addr)
    ∷ (codes "ip", ip_text row.addr.ip)
    ∷ (codes "port", decimal row.addr.port)
    ∷ (codes "flags", node_flags row.down row.disconnected (codes "slave"))
    ∷ (codes "slave-priority", decimal row.priority)
    ∷ (codes "slave-repl-offset", decimal row.offset)
    ∷ []

abbrev pub replica_frame : ReplicaRow → Frame
replica_frame row = fields_frame (replica_fields row)

abbrev pub sentinel_fields : SentinelRow → List (List ℕ × List ℕ)
sentinel_fields row =
    (codes "name", id_text row.id)
    ∷ (codes "ip", ip_text row.addr.ip)
    ∷ (codes "port", decimal row.addr.port)
    ∷ (codes "runid", id_text row.id)
    ∷ (codes "flags", node_flags row.down row.disconnected (codes "sentinel"))
    ∷ []

abbrev pub sentinel_frame : SentinelRow → Frame
sentinel_frame row = fields_frame (sentinel_fields row)

-- ---- lists of rows

abbrev pub masters_frame : List MasterRow → Frame
masters_frame rows = items (frames_of (map master_frame rows))

abbrev pub replicas_frame : List ReplicaRow → Frame
replicas_frame rows = items (frames_of (map replica_frame rows))

abbrev pub sentinels_frame : List SentinelRow → Frame
sentinels_frame rows = items (frames_of (map sentinel_frame rows))

-- how an array of so many values begins
abbrev pub header : ℕ → List ℕ
header count = 42 ∷ (decimal count ++ line_end)

-- ---- lines

-- the answer about a name that no master has
abbrev pub no_such_master : Frame
no_such_master = fault (codes "ERR No such master with that name")

abbrev pub ok_line : Frame
ok_line = simple (codes "OK")

-- the answers to SENTINEL FAILOVER where no switch begins: one is under way, the clock isn't to be trusted, or no replica can be promoted
abbrev pub in_progress : Frame
in_progress = fault (codes "INPROG Failover already in progress")

abbrev pub in_tilt : Frame
in_tilt = fault (codes "ERR Sentinel is in TILT mode, no failover begins")

abbrev pub no_good_replica : Frame
no_good_replica = fault (codes "NOGOODSLAVE No suitable replica to promote")

-- so many Sentinels can be reached, and that is enough
abbrev pub quorum_reached : ℕ → Frame
quorum_reached usable = simple (codes "OK " ++ (decimal usable ++ codes " usable Sentinels, quorum and majority can be reached"))

-- so many Sentinels can be reached, and that isn't enough
abbrev pub no_quorum : ℕ → Frame
no_quorum usable = fault (codes "NOQUORUM " ++ (decimal usable ++ codes " usable Sentinels"))

abbrev pub id_frame : RunId → Frame
id_frame id = bulk (id_text id)

-- the answer to SUBSCRIBE: the channel, and on how many channels the connection listens now
abbrev pub subscribed : Frame
subscribed = items (frames_of (bulk (codes "subscribe") ∷ bulk channel ∷ int (pos 1) ∷ []))

abbrev pub fault_text : CommandFault → List ℕ
fault_text NotACommand = codes "ERR not a command"
fault_text UnknownCommand = codes "ERR unknown command"
fault_text WrongArguments = codes "ERR wrong number of arguments"
fault_text BadAddress = codes "ERR bad address"
fault_text BadEpoch = codes "ERR bad epoch"
fault_text BadRunId = codes "ERR bad run id"
fault_text UnknownChannel = codes "ERR unknown channel"

-- the answer to a value that is no command of the port
abbrev pub command_fault : CommandFault → Frame
command_fault refusal = fault (fault_text refusal)

-- the answer to bytes that are no RESP2
abbrev pub protocol_error : Frame
protocol_error = fault (codes "ERR Protocol error")
