-- What the words of a command ask of a data node.
use Rattle.std.specs.Prelude.{ℕ, Bool, true, false, ◌&&◌, ◌||◌, List, [], ◌∷◌, Option, Some, None, codes, if◌then◌else◌}
use Rattle.ballot_law.specs.Words as words
use Rattle.resp2.specs.Commands as commands
use Rattle.data_node_port.specs.declared.asks.Ask.{Ask}
use Rattle.data_node_port.specs.declared.asks.Ask.TheVariants.{Nothing, Ping, Echo, Info, Role, Follow, Quit, Refused}
use Rattle.data_node_port.specs.declared.asks.Refusal.TheVariants.{UnknownCommand, PingArguments, RoleArguments, ReplicaOfArguments, BadPort, BadHost}
use Rattle.data_node_port.specs.declared.asks.Sections.{Sections}

-- the word is this name, which is written in lower case
abbrev pub is_called : (name word : List ℕ) → Bool
is_called name word = commands.is_called (words.lower name) word

-- ---- INFO

-- the word asks for the section, or for all
abbrev pub asks_for : (section word : List ℕ) → Bool
asks_for section word =
    is_called section word || (is_called (codes "default") word || (is_called (codes "all") word || is_called (codes "everything") word))

abbrev pub is_among : (section : List ℕ) → List (List ℕ) → Bool
is_among section [] = false
is_among section (word ∷ args) = asks_for section word || is_among section args

-- no word asks for all sections
abbrev pub is_told : (section : List ℕ) → List (List ℕ) → Bool
is_told section [] = true
is_told section (word ∷ args) = is_among section (word ∷ args)

abbrev pub sections_of : List (List ℕ) → Sections
sections_of args = record { server = is_told (codes "server") args; replication = is_told (codes "replication") args }

-- ---- the other commands

abbrev pub ping : List (List ℕ) → Ask
ping [] = Ping
ping (text ∷ []) = Echo text
ping _ = Refused PingArguments

abbrev pub role : List (List ℕ) → Ask
role [] = Role
role _ = Refused RoleArguments

abbrev pub is_no_one : (host port : List ℕ) → Bool
is_no_one host port = is_called (codes "no") host && is_called (codes "one") port

abbrev pub at_host : Option ℕ → (port : ℕ) → Ask
at_host None port = Refused BadHost
at_host (Some ip) port = Follow (Some (record { ip = ip; port = port }))

abbrev pub at_port : (host : List ℕ) → Option ℕ → Ask
at_port host None = Refused BadPort
at_port host (Some port) = at_host (words.ip host) port

-- an IPv4 address and a port of one or more digits
abbrev pub followed : (host port : List ℕ) → Ask
followed host port = at_port host (words.port port)

abbrev pub replica_of : List (List ℕ) → Ask
replica_of (host ∷ port ∷ []) = if is_no_one host port then Follow None else followed host port
replica_of _ = Refused ReplicaOfArguments

-- what a command of these words asks, whose name is the first of them
abbrev pub ask_of : List (List ℕ) → Ask
ask_of [] = Nothing
ask_of (name ∷ args) =
    if is_called (codes "ping") name then ping args
    else if is_called (codes "info") name then Info (sections_of args)
    else if is_called (codes "role") name then role args
    else if is_called (codes "replicaof") name then replica_of args
    else if is_called (codes "quit") name then Quit
    else Refused UnknownCommand
