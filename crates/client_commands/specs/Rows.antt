-- The commands and subcommands that COMMAND tells of, and what is told of each in its row.
use Rattle.std.specs.Prelude.{ℕ, suc, zero, Bool, true, false, ℤ, pos, negsuc, List, [], ◌∷◌, ◌++◌, codes}
use Rattle.client_commands.specs.declared.rows.KnownCommand.{KnownCommand}
use Rattle.client_commands.specs.declared.rows.KnownCommand.TheVariants.{Ping, Hello, Auth, Client, Command, Role, Publish, Info, Sentinel, Subscribe, Unsubscribe, PSubscribe, PUnsubscribe, ClientSetName, ClientGetName, ClientId, ClientList, ClientInfo, ClientKill, ClientNoEvict, ClientReply, ClientHelp, CommandCount, CommandDocs, CommandInfo, CommandList, CommandHelp, SentinelMasters, SentinelMaster, SentinelReplicas, SentinelSlaves, SentinelSentinels, SentinelMyId, SentinelCkQuorum, SentinelFailover, SentinelFlushConfig, SentinelGetMasterAddr, SentinelIsMasterDown, SentinelHelp, SentinelPendingScripts, SentinelInfoCache, SentinelConfig}
use Rattle.client_commands.specs.declared.classes.Class.{Class}
use Rattle.client_commands.specs.declared.classes.Class.TheVariants.{Probe, Greeting, Container, Table, Status, Publishing, Figures, Ruled, Listening, Own, Clients, OwnLine, Control, Counting, Advice}

-- the commands that aren't subcommands
abbrev pub families : List KnownCommand
families =
    Ping ∷ Hello ∷ Auth ∷ Client ∷ Command ∷ Role ∷ Publish ∷ Info ∷ Sentinel ∷ Subscribe ∷ Unsubscribe ∷ PSubscribe ∷ PUnsubscribe ∷ []

abbrev pub of_client : List KnownCommand
of_client =
    ClientSetName ∷ ClientGetName ∷ ClientId ∷ ClientList ∷ ClientInfo ∷ ClientKill ∷ ClientNoEvict ∷ ClientReply ∷ ClientHelp ∷ []

abbrev pub of_command : List KnownCommand
of_command =
    CommandCount ∷ CommandDocs ∷ CommandInfo ∷ CommandList ∷ CommandHelp ∷ []

abbrev pub of_sentinel : List KnownCommand
of_sentinel =
    SentinelMasters ∷ SentinelMaster ∷ SentinelReplicas ∷ SentinelSlaves ∷ SentinelSentinels ∷ SentinelMyId ∷ SentinelCkQuorum ∷ SentinelFailover ∷
    SentinelFlushConfig ∷ SentinelGetMasterAddr ∷ SentinelIsMasterDown ∷ SentinelHelp ∷ SentinelPendingScripts ∷ SentinelInfoCache ∷ SentinelConfig ∷ []

abbrev pub subs_of : KnownCommand → List KnownCommand
subs_of Client = of_client
subs_of Command = of_command
subs_of Sentinel = of_sentinel
subs_of _ = []

abbrev pub is_sub : KnownCommand → Bool
is_sub Ping = false
is_sub Hello = false
is_sub Auth = false
is_sub Client = false
is_sub Command = false
is_sub Role = false
is_sub Publish = false
is_sub Info = false
is_sub Sentinel = false
is_sub Subscribe = false
is_sub Unsubscribe = false
is_sub PSubscribe = false
is_sub PUnsubscribe = false
is_sub _ = true

-- each command with its subcommands after it
abbrev pub with_subs : List KnownCommand → List KnownCommand
with_subs [] = []
with_subs (family ∷ rest) = family ∷ (subs_of family ++ with_subs rest)

abbrev pub all_commands : List KnownCommand
all_commands = with_subs families

-- the name of a subcommand stands after that of its command
abbrev pub name : KnownCommand → List ℕ
name Ping = codes "ping"
name Hello = codes "hello"
name Auth = codes "auth"
name Client = codes "client"
name Command = codes "command"
name Role = codes "role"
name Publish = codes "publish"
name Info = codes "info"
name Sentinel = codes "sentinel"
name Subscribe = codes "subscribe"
name Unsubscribe = codes "unsubscribe"
name PSubscribe = codes "psubscribe"
name PUnsubscribe = codes "punsubscribe"
name ClientSetName = codes "client|setname"
name ClientGetName = codes "client|getname"
name ClientId = codes "client|id"
name ClientList = codes "client|list"
name ClientInfo = codes "client|info"
name ClientKill = codes "client|kill"
name ClientNoEvict = codes "client|no-evict"
name ClientReply = codes "client|reply"
name ClientHelp = codes "client|help"
name CommandCount = codes "command|count"
name CommandDocs = codes "command|docs"
name CommandInfo = codes "command|info"
name CommandList = codes "command|list"
name CommandHelp = codes "command|help"
name SentinelMasters = codes "sentinel|masters"
name SentinelMaster = codes "sentinel|master"
name SentinelReplicas = codes "sentinel|replicas"
name SentinelSlaves = codes "sentinel|slaves"
name SentinelSentinels = codes "sentinel|sentinels"
name SentinelMyId = codes "sentinel|myid"
name SentinelCkQuorum = codes "sentinel|ckquorum"
name SentinelFailover = codes "sentinel|failover"
name SentinelFlushConfig = codes "sentinel|flushconfig"
name SentinelGetMasterAddr = codes "sentinel|get-master-addr-by-name"
name SentinelIsMasterDown = codes "sentinel|is-master-down-by-addr"
name SentinelHelp = codes "sentinel|help"
name SentinelPendingScripts = codes "sentinel|pending-scripts"
name SentinelInfoCache = codes "sentinel|info-cache"
name SentinelConfig = codes "sentinel|config"

-- how many words a command has, its name too
abbrev pub exactly : ℕ → ℤ
exactly n = pos n

abbrev pub at_least : ℕ → ℤ
at_least zero = pos zero
at_least (suc n) = negsuc n

abbrev pub arity : KnownCommand → ℤ
arity Ping = at_least 1
arity Hello = at_least 1
arity Auth = at_least 2
arity Client = at_least 2
arity Command = at_least 1
arity Role = exactly 1
arity Publish = exactly 3
arity Info = at_least 1
arity Sentinel = at_least 2
arity Subscribe = at_least 2
arity Unsubscribe = at_least 1
arity PSubscribe = at_least 2
arity PUnsubscribe = at_least 1
arity ClientSetName = exactly 3
arity ClientGetName = exactly 2
arity ClientId = exactly 2
arity ClientList = at_least 2
arity ClientInfo = exactly 2
arity ClientKill = at_least 3
arity ClientNoEvict = exactly 3
arity ClientReply = exactly 3
arity ClientHelp = exactly 2
arity CommandCount = exactly 2
arity CommandDocs = at_least 2
arity CommandInfo = at_least 2
arity CommandList = at_least 2
arity CommandHelp = exactly 2
arity SentinelMasters = exactly 2
arity SentinelMaster = exactly 3
arity SentinelReplicas = exactly 3
arity SentinelSlaves = exactly 3
arity SentinelSentinels = exactly 3
arity SentinelMyId = exactly 2
arity SentinelCkQuorum = exactly 3
arity SentinelFailover = exactly 3
arity SentinelFlushConfig = exactly 2
arity SentinelGetMasterAddr = exactly 3
arity SentinelIsMasterDown = exactly 6
arity SentinelHelp = exactly 2
arity SentinelPendingScripts = exactly 2
arity SentinelInfoCache = at_least 3
arity SentinelConfig = at_least 3

abbrev pub class_of : KnownCommand → Class
class_of Ping = Probe
class_of Hello = Greeting
class_of Auth = Greeting
class_of Client = Container
class_of Command = Table
class_of Role = Status
class_of Publish = Publishing
class_of Info = Figures
class_of Sentinel = Ruled
class_of Subscribe = Listening
class_of Unsubscribe = Listening
class_of PSubscribe = Listening
class_of PUnsubscribe = Listening
class_of ClientSetName = Own
class_of ClientGetName = Own
class_of ClientId = Own
class_of ClientList = Clients
class_of ClientInfo = OwnLine
class_of ClientKill = Control
class_of ClientNoEvict = Control
class_of ClientReply = Own
class_of ClientHelp = Counting
class_of CommandCount = Counting
class_of CommandDocs = Table
class_of CommandInfo = Table
class_of CommandList = Table
class_of CommandHelp = Counting
class_of SentinelMasters = Ruled
class_of SentinelMaster = Ruled
class_of SentinelReplicas = Ruled
class_of SentinelSlaves = Ruled
class_of SentinelSentinels = Ruled
class_of SentinelMyId = Ruled
class_of SentinelCkQuorum = Ruled
class_of SentinelFailover = Ruled
class_of SentinelFlushConfig = Ruled
class_of SentinelGetMasterAddr = Ruled
class_of SentinelIsMasterDown = Ruled
class_of SentinelHelp = Advice
class_of SentinelPendingScripts = Ruled
class_of SentinelInfoCache = Ruled
class_of SentinelConfig = Ruled

abbrev pub flags : Class → List (List ℕ)
flags Probe = codes "fast" ∷ []
flags Greeting = codes "noscript" ∷ codes "loading" ∷ codes "stale" ∷ codes "fast" ∷ codes "no_auth" ∷ codes "allow_busy" ∷ []
flags Container = []
flags Table = codes "loading" ∷ codes "stale" ∷ []
flags Status = codes "noscript" ∷ codes "loading" ∷ codes "stale" ∷ codes "fast" ∷ []
flags Publishing = codes "pubsub" ∷ codes "loading" ∷ codes "stale" ∷ codes "fast" ∷ []
flags Figures = codes "loading" ∷ codes "stale" ∷ []
flags Ruled = codes "admin" ∷ []
flags Listening = codes "pubsub" ∷ codes "noscript" ∷ codes "loading" ∷ codes "stale" ∷ []
flags Own = codes "noscript" ∷ codes "loading" ∷ codes "stale" ∷ []
flags Clients = codes "admin" ∷ codes "noscript" ∷ codes "loading" ∷ codes "stale" ∷ []
flags OwnLine = codes "noscript" ∷ codes "loading" ∷ codes "stale" ∷ []
flags Control = codes "admin" ∷ codes "noscript" ∷ codes "loading" ∷ codes "stale" ∷ []
flags Counting = codes "loading" ∷ codes "stale" ∷ []
flags Advice = codes "loading" ∷ codes "stale" ∷ []

-- the categories of access
abbrev pub categories : Class → List (List ℕ)
categories Probe = codes "@fast" ∷ codes "@connection" ∷ []
categories Greeting = codes "@fast" ∷ codes "@connection" ∷ []
categories Container = codes "@slow" ∷ []
categories Table = codes "@slow" ∷ codes "@connection" ∷ []
categories Status = codes "@admin" ∷ codes "@fast" ∷ codes "@dangerous" ∷ []
categories Publishing = codes "@pubsub" ∷ codes "@fast" ∷ []
categories Figures = codes "@slow" ∷ codes "@dangerous" ∷ []
categories Ruled = codes "@admin" ∷ codes "@slow" ∷ codes "@dangerous" ∷ []
categories Listening = codes "@pubsub" ∷ codes "@slow" ∷ []
categories Own = codes "@slow" ∷ codes "@connection" ∷ []
categories Clients = codes "@admin" ∷ codes "@slow" ∷ codes "@dangerous" ∷ codes "@connection" ∷ []
categories OwnLine = codes "@slow" ∷ codes "@connection" ∷ []
categories Control = codes "@admin" ∷ codes "@slow" ∷ codes "@dangerous" ∷ codes "@connection" ∷ []
categories Counting = codes "@slow" ∷ codes "@connection" ∷ []
categories Advice = codes "@slow" ∷ []

-- what a client of a cluster is to know
abbrev pub tips : Class → List (List ℕ)
tips Probe = codes "request_policy:all_shards" ∷ codes "response_policy:all_succeeded" ∷ []
tips Greeting = []
tips Container = []
tips Table = codes "nondeterministic_output_order" ∷ []
tips Status = []
tips Publishing = []
tips Figures = codes "nondeterministic_output" ∷ codes "request_policy:all_shards" ∷ codes "response_policy:special" ∷ []
tips Ruled = []
tips Listening = []
tips Own = []
tips Clients = codes "nondeterministic_output" ∷ []
tips OwnLine = codes "nondeterministic_output" ∷ []
tips Control = []
tips Counting = []
tips Advice = []
