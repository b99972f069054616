-- What a data node that shows an INFO answers.
use Rattle.std.specs.Prelude.{ℕ, Bool, true, false, ◌&&◌, List, [], ◌∷◌, ◌++◌, Option, Some, None, codes, decimal, if◌then◌else◌}
use Rattle.ballot_law.specs.declared.addresses.Addr.{Addr}
use Rattle.ballot_law.specs.declared.addresses.RunId.{RunId}
use Rattle.ballot_law.specs.declared.replies.Info.{Info}
use Rattle.ballot_law.specs.declared.replies.Role.{Role}
use Rattle.ballot_law.specs.declared.replies.Role.TheVariants as roles
use Rattle.ballot_law.specs.Orders.{same_addr}
use Rattle.ballot_law.specs.Words.{id_text}
use Rattle.node_texts.specs.Infos.{info_text}
use Rattle.node_texts.specs.Roles.{role_frame}
use Rattle.resp2.specs.Framing.Frame.{simple, fault, bulk, spelling, line_end}
use Rattle.data_node_port.specs.declared.asks.Ask.{Ask}
use Rattle.data_node_port.specs.declared.asks.Ask.TheVariants as asks
use Rattle.data_node_port.specs.declared.asks.Refusal.{Refusal}
use Rattle.data_node_port.specs.declared.asks.Refusal.TheVariants.{UnknownCommand, PingArguments, RoleArguments, ReplicaOfArguments, BadPort, BadHost}
use Rattle.data_node_port.specs.declared.asks.Sections.{Sections}

-- ---- INFO

unfoldable pub server_front : List ℕ
server_front = codes "# Server" ++ (line_end ++ (codes "redis_version:7.2.0" ++ (line_end ++ (codes "redis_mode:standalone" ++ line_end))))

unfoldable pub replication_front : List ℕ
replication_front = codes "# Replication" ++ line_end

abbrev pub id_line : Option RunId → List ℕ
id_line None = []
id_line (Some id) = codes "run_id:" ++ (id_text id ++ line_end)

abbrev pub server_section : Info → List ℕ
server_section info = server_front ++ id_line info.id

abbrev pub without_id : Info → Info
without_id info = record info { id = None }

abbrev pub offset_line : ℕ → List ℕ
offset_line offset = codes "master_repl_offset:" ++ (decimal offset ++ line_end)

-- what a Sentinel reads of an INFO, as it is spelled for one, and the offset as masters name it
abbrev pub replication_section : Info → List ℕ
replication_section info = replication_front ++ (info_text (without_id info) ++ offset_line info.offset)

abbrev pub where_told : Bool → List ℕ → List ℕ
where_told true text = text
where_told false text = []

-- the sections that are asked for, with an empty line between two
abbrev pub told : Sections → Info → List ℕ
told sections info =
    where_told sections.server (server_section info)
    ++ (where_told (sections.server && sections.replication) line_end ++ where_told sections.replication (replication_section info))

-- ---- ROLE and REPLICAOF

abbrev pub role_by : Option Addr → (offset : ℕ) → Role
role_by None offset = roles.Master offset
role_by (Some addr) offset = roles.Replica addr offset

-- who follows nobody is a master
abbrev pub role_shown : Info → Role
role_shown info = role_by info.master info.offset

-- what REPLICAOF is answered by a node that followed this master before
abbrev pub followed_text : (follows before : Option Addr) → List ℕ
followed_text (Some addr) (Some master) = if same_addr addr master then codes "OK Already connected to specified master" else codes "OK"
followed_text (Some addr) None = codes "OK"
followed_text None before = codes "OK"

-- ---- all answers

abbrev pub refusal_text : Refusal → List ℕ
refusal_text UnknownCommand = codes "ERR unknown command"
refusal_text PingArguments = codes "ERR wrong number of arguments for 'ping' command"
refusal_text RoleArguments = codes "ERR wrong number of arguments for 'role' command"
refusal_text ReplicaOfArguments = codes "ERR wrong number of arguments for 'replicaof' command"
refusal_text BadPort = codes "ERR Invalid master port"
refusal_text BadHost = codes "ERR master host is not an IPv4 address"

-- what a node that shows this answers
abbrev pub answer_to : Ask → Info → List ℕ
answer_to asks.Nothing info = []
answer_to asks.Ping info = spelling (simple (codes "PONG"))
answer_to (asks.Echo text) info = spelling (bulk text)
answer_to (asks.Info sections) info = spelling (bulk (told sections info))
answer_to asks.Role info = spelling (role_frame (role_shown info))
answer_to (asks.Follow follows) info = spelling (simple (followed_text follows info.master))
answer_to asks.Quit info = spelling (simple (codes "OK"))
answer_to (asks.Refused refusal) info = spelling (fault (refusal_text refusal))
