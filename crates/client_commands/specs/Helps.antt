-- What HELP says of SENTINEL, CLIENT and COMMAND: redis-sentinel's lines about the subcommands that are here. What it says of FAILOVER isn't so here, since the other Sentinels
-- are asked.
use Rattle.std.specs.Prelude.{ℕ, List, [], ◌∷◌, map, codes}
use Rattle.resp2.specs.Framing.Frame.{Frame, simple, items, frames_of}

-- a line for each
abbrev pub told_lines : List (List ℕ) → Frame
told_lines lines = items (frames_of (map simple lines))

abbrev pub sentinel_help : List (List ℕ)
sentinel_help =
    codes "SENTINEL <subcommand> [<arg> [value] [opt] ...]. Subcommands are:" ∷
    codes "CKQUORUM <master-name>" ∷
    codes "    Check if the current Sentinel configuration is able to reach the quorum" ∷
    codes "    needed to failover a master and the majority needed to authorize the" ∷
    codes "    failover." ∷
    codes "CONFIG GET <param>" ∷
    codes "    Get global Sentinel configuration parameter." ∷
    codes "GET-MASTER-ADDR-BY-NAME <master-name>" ∷
    codes "    Return the ip and port number of the master with that name." ∷
    codes "FAILOVER <master-name>" ∷
    codes "FLUSHCONFIG" ∷
    codes "    Force Sentinel to rewrite its configuration on disk, including the current" ∷
    codes "    Sentinel state." ∷
    codes "INFO-CACHE <master-name>" ∷
    codes "    Return last cached INFO output from masters and all its replicas." ∷
    codes "IS-MASTER-DOWN-BY-ADDR <ip> <port> <current-epoch> <runid>" ∷
    codes "    Check if the master specified by ip:port is down from current Sentinel's" ∷
    codes "    point of view." ∷
    codes "MASTER <master-name>" ∷
    codes "    Show the state and info of the specified master." ∷
    codes "MASTERS" ∷
    codes "    Show a list of monitored masters and their state." ∷
    codes "MYID" ∷
    codes "    Return the ID of the Sentinel instance." ∷
    codes "PENDING-SCRIPTS" ∷
    codes "    Get pending scripts information." ∷
    codes "REPLICAS <master-name>" ∷
    codes "    Show a list of replicas for this master and their state." ∷
    codes "SENTINELS <master-name>" ∷
    codes "    Show a list of Sentinel instances for this master and their state." ∷
    codes "HELP" ∷
    codes "    Prints this help." ∷ []

abbrev pub client_help : List (List ℕ)
client_help =
    codes "CLIENT <subcommand> [<arg> [value] [opt] ...]. Subcommands are:" ∷
    codes "GETNAME" ∷
    codes "    Return the name of the current connection." ∷
    codes "ID" ∷
    codes "    Return the ID of the current connection." ∷
    codes "INFO" ∷
    codes "    Return information about the current client connection." ∷
    codes "KILL <ip:port>" ∷
    codes "    Kill connection made from <ip:port>." ∷
    codes "KILL <option> <value> [<option> <value> [...]]" ∷
    codes "    Kill connections. Options are:" ∷
    codes "    * ADDR (<ip:port>|<unixsocket>:0)" ∷
    codes "      Kill connections made from the specified address" ∷
    codes "    * LADDR (<ip:port>|<unixsocket>:0)" ∷
    codes "      Kill connections made to specified local address" ∷
    codes "    * TYPE (NORMAL|MASTER|REPLICA|PUBSUB)" ∷
    codes "      Kill connections by type." ∷
    codes "    * USER <username>" ∷
    codes "      Kill connections authenticated by <username>." ∷
    codes "    * SKIPME (YES|NO)" ∷
    codes "      Skip killing current connection (default: yes)." ∷
    codes "LIST [options ...]" ∷
    codes "    Return information about client connections. Options:" ∷
    codes "    * TYPE (NORMAL|MASTER|REPLICA|PUBSUB)" ∷
    codes "      Return clients of specified type." ∷
    codes "REPLY (ON|OFF|SKIP)" ∷
    codes "    Control the replies sent to the current connection." ∷
    codes "SETNAME <name>" ∷
    codes "    Assign the name <name> to the current connection." ∷
    codes "NO-EVICT (ON|OFF)" ∷
    codes "    Protect current client connection from eviction." ∷
    codes "HELP" ∷
    codes "    Prints this help." ∷ []

abbrev pub command_help : List (List ℕ)
command_help =
    codes "COMMAND <subcommand> [<arg> [value] [opt] ...]. Subcommands are:" ∷
    codes "(no subcommand)" ∷
    codes "    Return details about all Redis commands." ∷
    codes "COUNT" ∷
    codes "    Return the total number of commands in this Redis server." ∷
    codes "LIST" ∷
    codes "    Return a list of all commands in this Redis server." ∷
    codes "INFO [<command-name> ...]" ∷
    codes "    Return details about multiple Redis commands." ∷
    codes "    If no command names are given, documentation details for all" ∷
    codes "    commands are returned." ∷
    codes "DOCS [<command-name> ...]" ∷
    codes "    Return documentation details about multiple Redis commands." ∷
    codes "    If no command names are given, documentation details for all" ∷
    codes "    commands are returned." ∷
    codes "HELP" ∷
    codes "    Prints this help." ∷ []
