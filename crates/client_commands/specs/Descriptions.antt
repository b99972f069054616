-- What COMMAND DOCS says of each command, in the words of redis-sentinel.
use Rattle.std.specs.Prelude.{ℕ, List, [], ◌∷◌, map, codes}
use Rattle.resp2.specs.Framing.Frame.{Frame, FrameList, simple, bulk, items, no_frames, frame, frames_of}
use Rattle.client_commands.specs.declared.rows.KnownCommand.{KnownCommand}
use Rattle.client_commands.specs.declared.rows.KnownCommand.TheVariants.{Ping, Hello, Auth, Client, Command, Role, Publish, Info, Sentinel, Subscribe, Unsubscribe, PSubscribe, PUnsubscribe, ClientSetName, ClientGetName, ClientId, ClientList, ClientInfo, ClientKill, ClientNoEvict, ClientReply, ClientHelp, CommandCount, CommandDocs, CommandInfo, CommandList, CommandHelp, SentinelMasters, SentinelMaster, SentinelReplicas, SentinelSlaves, SentinelSentinels, SentinelMyId, SentinelCkQuorum, SentinelFailover, SentinelFlushConfig, SentinelGetMasterAddr, SentinelIsMasterDown, SentinelHelp, SentinelPendingScripts, SentinelInfoCache, SentinelConfig}

-- names, each before its value
abbrev pub pairs_of : List (Frame × Frame) → FrameList
pairs_of [] = no_frames
pairs_of (pair ∷ pairs) = frame pair.0 (frame pair.1 (pairs_of pairs))

abbrev pub field : (name text : List ℕ) → Frame × Frame
field name text = (bulk name, bulk text)

abbrev pub many : (name : List ℕ) → List Frame → Frame × Frame
many name values = (bulk name, items (frames_of values))

abbrev pub marked : (name : List ℕ) → List (List ℕ) → Frame × Frame
marked name marks = many name (map simple marks)

-- what a version changed
abbrev pub change : (version text : List ℕ) → Frame
change version text = items (frames_of (bulk version ∷ bulk text ∷ []))

abbrev pub argument : (name kind : List ℕ) → List (Frame × Frame) → Frame
argument name kind more = items (pairs_of (field (codes "name") name ∷ field (codes "type") kind ∷ more))

abbrev pub fields : KnownCommand → List (Frame × Frame)
fields Ping =
    field (codes "summary") (codes "Ping the server") ∷
    field (codes "since") (codes "1.0.0") ∷
    field (codes "group") (codes "connection") ∷
    field (codes "complexity") (codes "O(1)") ∷
    many (codes "arguments") (
    argument (codes "message") (codes "string") (
    marked (codes "flags") (codes "optional" ∷ []) ∷ []) ∷ []) ∷ []
fields Hello =
    field (codes "summary") (codes "Handshake with Redis") ∷
    field (codes "since") (codes "6.0.0") ∷
    field (codes "group") (codes "connection") ∷
    field (codes "complexity") (codes "O(1)") ∷
    many (codes "history") (
    change (codes "6.2.0") (codes "`protover` made optional; when called without arguments the command reports the current connection's context.") ∷ []) ∷
    many (codes "arguments") (
    argument (codes "arguments") (codes "block") (
    marked (codes "flags") (codes "optional" ∷ []) ∷
    many (codes "arguments") (
    argument (codes "protover") (codes "integer") [] ∷
    argument (codes "username_password") (codes "block") (
    field (codes "token") (codes "AUTH") ∷
    marked (codes "flags") (codes "optional" ∷ []) ∷
    many (codes "arguments") (
    argument (codes "username") (codes "string") [] ∷
    argument (codes "password") (codes "string") [] ∷ []) ∷ []) ∷
    argument (codes "clientname") (codes "string") (
    field (codes "token") (codes "SETNAME") ∷
    marked (codes "flags") (codes "optional" ∷ []) ∷ []) ∷ []) ∷ []) ∷ []) ∷ []
fields Auth =
    field (codes "summary") (codes "Authenticate to the server") ∷
    field (codes "since") (codes "1.0.0") ∷
    field (codes "group") (codes "connection") ∷
    field (codes "complexity") (codes "O(N) where N is the number of passwords defined for the user") ∷
    many (codes "history") (
    change (codes "6.0.0") (codes "Added ACL style (username and password).") ∷ []) ∷
    many (codes "arguments") (
    argument (codes "username") (codes "string") (
    field (codes "since") (codes "6.0.0") ∷
    marked (codes "flags") (codes "optional" ∷ []) ∷ []) ∷
    argument (codes "password") (codes "string") [] ∷ []) ∷ []
fields Client =
    field (codes "summary") (codes "A container for client connection commands") ∷
    field (codes "since") (codes "2.4.0") ∷
    field (codes "group") (codes "connection") ∷
    field (codes "complexity") (codes "Depends on subcommand.") ∷ []
fields Command =
    field (codes "summary") (codes "Get array of Redis command details") ∷
    field (codes "since") (codes "2.8.13") ∷
    field (codes "group") (codes "server") ∷
    field (codes "complexity") (codes "O(N) where N is the total number of Redis commands") ∷ []
fields Role =
    field (codes "summary") (codes "Return the role of the instance in the context of replication") ∷
    field (codes "since") (codes "2.8.12") ∷
    field (codes "group") (codes "server") ∷
    field (codes "complexity") (codes "O(1)") ∷ []
fields Publish =
    field (codes "summary") (codes "Post a message to a channel") ∷
    field (codes "since") (codes "2.0.0") ∷
    field (codes "group") (codes "pubsub") ∷
    field (codes "complexity") (codes "O(N+M) where N is the number of clients subscribed to the receiving channel and M is the total number of subscribed patterns (by any client).") ∷
    many (codes "arguments") (
    argument (codes "channel") (codes "string") [] ∷
    argument (codes "message") (codes "string") [] ∷ []) ∷ []
fields Info =
    field (codes "summary") (codes "Get information and statistics about the server") ∷
    field (codes "since") (codes "1.0.0") ∷
    field (codes "group") (codes "server") ∷
    field (codes "complexity") (codes "O(1)") ∷
    many (codes "history") (
    change (codes "7.0.0") (codes "Added support for taking multiple section arguments.") ∷ []) ∷
    many (codes "arguments") (
    argument (codes "section") (codes "string") (
    marked (codes "flags") (codes "optional" ∷ codes "multiple" ∷ []) ∷ []) ∷ []) ∷ []
fields Sentinel =
    field (codes "summary") (codes "A container for Sentinel commands") ∷
    field (codes "since") (codes "2.8.4") ∷
    field (codes "group") (codes "sentinel") ∷
    field (codes "complexity") (codes "Depends on subcommand.") ∷ []
fields Subscribe =
    field (codes "summary") (codes "Listen for messages published to the given channels") ∷
    field (codes "since") (codes "2.0.0") ∷
    field (codes "group") (codes "pubsub") ∷
    field (codes "complexity") (codes "O(N) where N is the number of channels to subscribe to.") ∷
    many (codes "arguments") (
    argument (codes "channel") (codes "string") (
    marked (codes "flags") (codes "multiple" ∷ []) ∷ []) ∷ []) ∷ []
fields Unsubscribe =
    field (codes "summary") (codes "Stop listening for messages posted to the given channels") ∷
    field (codes "since") (codes "2.0.0") ∷
    field (codes "group") (codes "pubsub") ∷
    field (codes "complexity") (codes "O(N) where N is the number of clients already subscribed to a channel.") ∷
    many (codes "arguments") (
    argument (codes "channel") (codes "string") (
    marked (codes "flags") (codes "optional" ∷ codes "multiple" ∷ []) ∷ []) ∷ []) ∷ []
fields PSubscribe =
    field (codes "summary") (codes "Listen for messages published to channels matching the given patterns") ∷
    field (codes "since") (codes "2.0.0") ∷
    field (codes "group") (codes "pubsub") ∷
    field (codes "complexity") (codes "O(N) where N is the number of patterns the client is already subscribed to.") ∷
    many (codes "arguments") (
    argument (codes "pattern") (codes "block") (
    marked (codes "flags") (codes "multiple" ∷ []) ∷
    many (codes "arguments") (
    argument (codes "pattern") (codes "pattern") [] ∷ []) ∷ []) ∷ []) ∷ []
fields PUnsubscribe =
    field (codes "summary") (codes "Stop listening for messages posted to channels matching the given patterns") ∷
    field (codes "since") (codes "2.0.0") ∷
    field (codes "group") (codes "pubsub") ∷
    field (codes "complexity") (codes "O(N+M) where N is the number of patterns the client is already subscribed and M is the number of total patterns subscribed in the system (by any client).") ∷
    many (codes "arguments") (
    argument (codes "pattern") (codes "pattern") (
    marked (codes "flags") (codes "optional" ∷ codes "multiple" ∷ []) ∷ []) ∷ []) ∷ []
fields ClientSetName =
    field (codes "summary") (codes "Set the current connection name") ∷
    field (codes "since") (codes "2.6.9") ∷
    field (codes "group") (codes "connection") ∷
    field (codes "complexity") (codes "O(1)") ∷
    many (codes "arguments") (
    argument (codes "connection-name") (codes "string") [] ∷ []) ∷ []
fields ClientGetName =
    field (codes "summary") (codes "Get the current connection name") ∷
    field (codes "since") (codes "2.6.9") ∷
    field (codes "group") (codes "connection") ∷
    field (codes "complexity") (codes "O(1)") ∷ []
fields ClientId =
    field (codes "summary") (codes "Returns the client ID for the current connection") ∷
    field (codes "since") (codes "5.0.0") ∷
    field (codes "group") (codes "connection") ∷
    field (codes "complexity") (codes "O(1)") ∷ []
fields ClientList =
    field (codes "summary") (codes "Get the list of client connections") ∷
    field (codes "since") (codes "2.4.0") ∷
    field (codes "group") (codes "connection") ∷
    field (codes "complexity") (codes "O(N) where N is the number of client connections") ∷
    many (codes "history") (
    change (codes "2.8.12") (codes "Added unique client `id` field.") ∷
    change (codes "5.0.0") (codes "Added optional `TYPE` filter.") ∷
    change (codes "6.0.0") (codes "Added `user` field.") ∷
    change (codes "6.2.0") (codes "Added `argv-mem`, `tot-mem`, `laddr` and `redir` fields and the optional `ID` filter.") ∷
    change (codes "7.0.0") (codes "Added `resp`, `multi-mem`, `rbs` and `rbp` fields.") ∷
    change (codes "7.0.3") (codes "Added `ssub` field.") ∷ []) ∷
    many (codes "arguments") (
    argument (codes "normal_master_replica_pubsub") (codes "oneof") (
    field (codes "token") (codes "TYPE") ∷
    field (codes "since") (codes "5.0.0") ∷
    marked (codes "flags") (codes "optional" ∷ []) ∷
    many (codes "arguments") (
    argument (codes "normal") (codes "pure-token") (
    field (codes "token") (codes "NORMAL") ∷ []) ∷
    argument (codes "master") (codes "pure-token") (
    field (codes "token") (codes "MASTER") ∷ []) ∷
    argument (codes "replica") (codes "pure-token") (
    field (codes "token") (codes "REPLICA") ∷ []) ∷
    argument (codes "pubsub") (codes "pure-token") (
    field (codes "token") (codes "PUBSUB") ∷ []) ∷ []) ∷ []) ∷
    argument (codes "id") (codes "block") (
    field (codes "token") (codes "ID") ∷
    field (codes "since") (codes "6.2.0") ∷
    marked (codes "flags") (codes "optional" ∷ []) ∷
    many (codes "arguments") (
    argument (codes "client-id") (codes "integer") (
    marked (codes "flags") (codes "multiple" ∷ []) ∷ []) ∷ []) ∷ []) ∷ []) ∷ []
fields ClientInfo =
    field (codes "summary") (codes "Returns information about the current client connection.") ∷
    field (codes "since") (codes "6.2.0") ∷
    field (codes "group") (codes "connection") ∷
    field (codes "complexity") (codes "O(1)") ∷ []
fields ClientKill =
    field (codes "summary") (codes "Kill the connection of a client") ∷
    field (codes "since") (codes "2.4.0") ∷
    field (codes "group") (codes "connection") ∷
    field (codes "complexity") (codes "O(N) where N is the number of client connections") ∷
    many (codes "history") (
    change (codes "2.8.12") (codes "Added new filter format.") ∷
    change (codes "2.8.12") (codes "`ID` option.") ∷
    change (codes "3.2.0") (codes "Added `master` type in for `TYPE` option.") ∷
    change (codes "5.0.0") (codes "Replaced `slave` `TYPE` with `replica`. `slave` still supported for backward compatibility.") ∷
    change (codes "6.2.0") (codes "`LADDR` option.") ∷ []) ∷
    many (codes "arguments") (
    argument (codes "filter") (codes "oneof") (
    many (codes "arguments") (
    argument (codes "ip:port") (codes "string") (
    field (codes "deprecated_since") (codes "2.8.12") ∷ []) ∷
    argument (codes "new-format") (codes "oneof") (
    marked (codes "flags") (codes "multiple" ∷ []) ∷
    many (codes "arguments") (
    argument (codes "client-id") (codes "integer") (
    field (codes "token") (codes "ID") ∷
    field (codes "since") (codes "2.8.12") ∷
    marked (codes "flags") (codes "optional" ∷ []) ∷ []) ∷
    argument (codes "normal_master_slave_pubsub") (codes "oneof") (
    field (codes "token") (codes "TYPE") ∷
    field (codes "since") (codes "2.8.12") ∷
    marked (codes "flags") (codes "optional" ∷ []) ∷
    many (codes "arguments") (
    argument (codes "normal") (codes "pure-token") (
    field (codes "token") (codes "NORMAL") ∷ []) ∷
    argument (codes "master") (codes "pure-token") (
    field (codes "token") (codes "MASTER") ∷
    field (codes "since") (codes "3.2.0") ∷ []) ∷
    argument (codes "slave") (codes "pure-token") (
    field (codes "token") (codes "SLAVE") ∷ []) ∷
    argument (codes "replica") (codes "pure-token") (
    field (codes "token") (codes "REPLICA") ∷
    field (codes "since") (codes "5.0.0") ∷ []) ∷
    argument (codes "pubsub") (codes "pure-token") (
    field (codes "token") (codes "PUBSUB") ∷ []) ∷ []) ∷ []) ∷
    argument (codes "username") (codes "string") (
    field (codes "token") (codes "USER") ∷
    marked (codes "flags") (codes "optional" ∷ []) ∷ []) ∷
    argument (codes "ip:port") (codes "string") (
    field (codes "token") (codes "ADDR") ∷
    marked (codes "flags") (codes "optional" ∷ []) ∷ []) ∷
    argument (codes "ip:port") (codes "string") (
    field (codes "token") (codes "LADDR") ∷
    field (codes "since") (codes "6.2.0") ∷
    marked (codes "flags") (codes "optional" ∷ []) ∷ []) ∷
    argument (codes "yes/no") (codes "string") (
    field (codes "token") (codes "SKIPME") ∷
    marked (codes "flags") (codes "optional" ∷ []) ∷ []) ∷ []) ∷ []) ∷ []) ∷ []) ∷ []) ∷ []
fields ClientNoEvict =
    field (codes "summary") (codes "Set client eviction mode for the current connection") ∷
    field (codes "since") (codes "7.0.0") ∷
    field (codes "group") (codes "connection") ∷
    field (codes "complexity") (codes "O(1)") ∷
    many (codes "arguments") (
    argument (codes "enabled") (codes "oneof") (
    many (codes "arguments") (
    argument (codes "on") (codes "pure-token") (
    field (codes "token") (codes "ON") ∷ []) ∷
    argument (codes "off") (codes "pure-token") (
    field (codes "token") (codes "OFF") ∷ []) ∷ []) ∷ []) ∷ []) ∷ []
fields ClientReply =
    field (codes "summary") (codes "Instruct the server whether to reply to commands") ∷
    field (codes "since") (codes "3.2.0") ∷
    field (codes "group") (codes "connection") ∷
    field (codes "complexity") (codes "O(1)") ∷
    many (codes "arguments") (
    argument (codes "on_off_skip") (codes "oneof") (
    many (codes "arguments") (
    argument (codes "on") (codes "pure-token") (
    field (codes "token") (codes "ON") ∷ []) ∷
    argument (codes "off") (codes "pure-token") (
    field (codes "token") (codes "OFF") ∷ []) ∷
    argument (codes "skip") (codes "pure-token") (
    field (codes "token") (codes "SKIP") ∷ []) ∷ []) ∷ []) ∷ []) ∷ []
fields ClientHelp =
    field (codes "summary") (codes "Show helpful text about the different subcommands") ∷
    field (codes "since") (codes "5.0.0") ∷
    field (codes "group") (codes "connection") ∷
    field (codes "complexity") (codes "O(1)") ∷ []
fields CommandCount =
    field (codes "summary") (codes "Get total number of Redis commands") ∷
    field (codes "since") (codes "2.8.13") ∷
    field (codes "group") (codes "server") ∷
    field (codes "complexity") (codes "O(1)") ∷ []
fields CommandDocs =
    field (codes "summary") (codes "Get array of specific Redis command documentation") ∷
    field (codes "since") (codes "7.0.0") ∷
    field (codes "group") (codes "server") ∷
    field (codes "complexity") (codes "O(N) where N is the number of commands to look up") ∷
    many (codes "arguments") (
    argument (codes "command-name") (codes "string") (
    marked (codes "flags") (codes "optional" ∷ codes "multiple" ∷ []) ∷ []) ∷ []) ∷ []
fields CommandInfo =
    field (codes "summary") (codes "Get array of specific Redis command details, or all when no argument is given.") ∷
    field (codes "since") (codes "2.8.13") ∷
    field (codes "group") (codes "server") ∷
    field (codes "complexity") (codes "O(N) where N is the number of commands to look up") ∷
    many (codes "history") (
    change (codes "7.0.0") (codes "Allowed to be called with no argument to get info on all commands.") ∷ []) ∷
    many (codes "arguments") (
    argument (codes "command-name") (codes "string") (
    marked (codes "flags") (codes "optional" ∷ codes "multiple" ∷ []) ∷ []) ∷ []) ∷ []
fields CommandList =
    field (codes "summary") (codes "Get an array of Redis command names") ∷
    field (codes "since") (codes "7.0.0") ∷
    field (codes "group") (codes "server") ∷
    field (codes "complexity") (codes "O(N) where N is the total number of Redis commands") ∷
    many (codes "arguments") (
    argument (codes "filterby") (codes "oneof") (
    field (codes "token") (codes "FILTERBY") ∷
    marked (codes "flags") (codes "optional" ∷ []) ∷
    many (codes "arguments") (
    argument (codes "module-name") (codes "string") (
    field (codes "token") (codes "MODULE") ∷ []) ∷
    argument (codes "category") (codes "string") (
    field (codes "token") (codes "ACLCAT") ∷ []) ∷
    argument (codes "pattern") (codes "pattern") (
    field (codes "token") (codes "PATTERN") ∷ []) ∷ []) ∷ []) ∷ []) ∷ []
fields CommandHelp =
    field (codes "summary") (codes "Show helpful text about the different subcommands") ∷
    field (codes "since") (codes "5.0.0") ∷
    field (codes "group") (codes "server") ∷
    field (codes "complexity") (codes "O(1)") ∷ []
fields SentinelMasters =
    field (codes "summary") (codes "List the monitored masters") ∷
    field (codes "since") (codes "2.8.4") ∷
    field (codes "group") (codes "sentinel") ∷
    field (codes "complexity") (codes "O(N) where N is the number of masters") ∷ []
fields SentinelMaster =
    field (codes "summary") (codes "Shows the state of a master") ∷
    field (codes "since") (codes "2.8.4") ∷
    field (codes "group") (codes "sentinel") ∷
    field (codes "complexity") (codes "O(1)") ∷
    many (codes "arguments") (
    argument (codes "master-name") (codes "string") [] ∷ []) ∷ []
fields SentinelReplicas =
    field (codes "summary") (codes "List the monitored replicas") ∷
    field (codes "since") (codes "5.0.0") ∷
    field (codes "group") (codes "sentinel") ∷
    field (codes "complexity") (codes "O(N) where N is the number of replicas") ∷
    many (codes "arguments") (
    argument (codes "master-name") (codes "string") [] ∷ []) ∷ []
fields SentinelSlaves =
    field (codes "summary") (codes "List the monitored slaves") ∷
    field (codes "since") (codes "2.8.0") ∷
    field (codes "group") (codes "sentinel") ∷
    field (codes "complexity") (codes "O(N) where N is the number of slaves") ∷
    marked (codes "doc_flags") (codes "deprecated" ∷ []) ∷
    field (codes "deprecated_since") (codes "5.0.0") ∷
    field (codes "replaced_by") (codes "`SENTINEL REPLICAS`") ∷
    many (codes "arguments") (
    argument (codes "master-name") (codes "string") [] ∷ []) ∷ []
fields SentinelSentinels =
    field (codes "summary") (codes "List the Sentinel instances") ∷
    field (codes "since") (codes "2.8.4") ∷
    field (codes "group") (codes "sentinel") ∷
    field (codes "complexity") (codes "O(N) where N is the number of Sentinels") ∷
    many (codes "arguments") (
    argument (codes "master-name") (codes "string") [] ∷ []) ∷ []
fields SentinelMyId =
    field (codes "summary") (codes "Get the Sentinel instance ID") ∷
    field (codes "since") (codes "6.2.0") ∷
    field (codes "group") (codes "sentinel") ∷
    field (codes "complexity") (codes "O(1)") ∷ []
fields SentinelCkQuorum =
    field (codes "summary") (codes "Check for a Sentinel quorum") ∷
    field (codes "since") (codes "2.8.4") ∷
    field (codes "group") (codes "sentinel") ∷
    many (codes "arguments") (
    argument (codes "master-name") (codes "string") [] ∷ []) ∷ []
fields SentinelFailover =
    field (codes "summary") (codes "Force a failover") ∷
    field (codes "since") (codes "2.8.4") ∷
    field (codes "group") (codes "sentinel") ∷
    many (codes "arguments") (
    argument (codes "master-name") (codes "string") [] ∷ []) ∷ []
fields SentinelFlushConfig =
    field (codes "summary") (codes "Rewrite configuration file") ∷
    field (codes "since") (codes "2.8.4") ∷
    field (codes "group") (codes "sentinel") ∷
    field (codes "complexity") (codes "O(1)") ∷ []
fields SentinelGetMasterAddr =
    field (codes "summary") (codes "Get port and address of a master") ∷
    field (codes "since") (codes "2.8.4") ∷
    field (codes "group") (codes "sentinel") ∷
    field (codes "complexity") (codes "O(1)") ∷
    many (codes "arguments") (
    argument (codes "master-name") (codes "string") [] ∷ []) ∷ []
fields SentinelIsMasterDown =
    field (codes "summary") (codes "Check if a master is down") ∷
    field (codes "since") (codes "2.8.4") ∷
    field (codes "group") (codes "sentinel") ∷
    field (codes "complexity") (codes "O(1)") ∷
    many (codes "arguments") (
    argument (codes "ip") (codes "string") [] ∷
    argument (codes "port") (codes "integer") [] ∷
    argument (codes "current-epoch") (codes "integer") [] ∷
    argument (codes "runid") (codes "string") [] ∷ []) ∷ []
fields SentinelHelp =
    field (codes "summary") (codes "Show helpful text about the different subcommands") ∷
    field (codes "since") (codes "6.2.0") ∷
    field (codes "group") (codes "sentinel") ∷
    field (codes "complexity") (codes "O(1)") ∷ []
fields SentinelPendingScripts =
    field (codes "summary") (codes "Get information about pending scripts") ∷
    field (codes "since") (codes "2.8.4") ∷
    field (codes "group") (codes "sentinel") ∷ []
fields SentinelInfoCache =
    field (codes "summary") (codes "Get cached INFO from the instances in the deployment") ∷
    field (codes "since") (codes "3.2.0") ∷
    field (codes "group") (codes "sentinel") ∷
    field (codes "complexity") (codes "O(N) where N is the number of instances") ∷
    many (codes "arguments") (
    argument (codes "nodename") (codes "string") (
    marked (codes "flags") (codes "multiple" ∷ []) ∷ []) ∷ []) ∷ []
fields SentinelConfig =
    field (codes "summary") (codes "Configure Sentinel") ∷
    field (codes "since") (codes "6.2.0") ∷
    field (codes "group") (codes "sentinel") ∷
    field (codes "complexity") (codes "O(1)") ∷
    many (codes "arguments") (
    argument (codes "set_or_get") (codes "oneof") (
    many (codes "arguments") (
    argument (codes "set_param_value") (codes "block") (
    field (codes "token") (codes "SET") ∷
    marked (codes "flags") (codes "multiple" ∷ []) ∷
    many (codes "arguments") (
    argument (codes "parameter") (codes "string") [] ∷
    argument (codes "value") (codes "string") [] ∷ []) ∷ []) ∷
    argument (codes "parameter") (codes "string") (
    field (codes "token") (codes "GET") ∷
    marked (codes "flags") (codes "multiple" ∷ []) ∷ []) ∷ []) ∷ []) ∷ []) ∷ []
