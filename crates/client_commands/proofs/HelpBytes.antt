-- The bytes of what HELP says.
use Rattle.std.proofs.Common.{◌≡◌, ◌∙◌, [], ◌∷◌, ◌++◌, codes, decimal, refl, arith}
use Rattle.std.proofs.lemmas.Fmt.{decimal_digit, decimal_step}
use Rattle.resp2.specs.Framing.Frame.{spelling, line_end}
use Rattle.client_commands.specs.Helps.{told_lines, sentinel_help, client_help, command_help}

one : decimal 1 ≡ 49 ∷ []
one = decimal_digit 1 (omega arith)

three : decimal 3 ≡ 51 ∷ []
three = decimal_digit 3 (omega arith)

seventeen : decimal 17 ≡ 49 ∷ 55 ∷ []
seventeen = decimal_step 17 (omega arith) (omega arith) ∙ (rw (one) refl)

thirty_two : decimal 32 ≡ 51 ∷ 50 ∷ []
thirty_two = decimal_step 32 (omega arith) (omega arith) ∙ (rw (three) refl)

thirty_three : decimal 33 ≡ 51 ∷ 51 ∷ []
thirty_three = decimal_step 33 (omega arith) (omega arith) ∙ (rw (three) refl)

pub sentinel_help_bytes : spelling (told_lines sentinel_help) ≡
    codes "*32" ++ (line_end ++ (
    codes "+SENTINEL <subcommand> [<arg> [value] [opt] ...]. Subcommands are:" ++ (line_end ++ (
    codes "+CKQUORUM <master-name>" ++ (line_end ++ (
    codes "+    Check if the current Sentinel configuration is able to reach the quorum" ++ (line_end ++ (
    codes "+    needed to failover a master and the majority needed to authorize the" ++ (line_end ++ (
    codes "+    failover." ++ (line_end ++ (
    codes "+CONFIG GET <param>" ++ (line_end ++ (
    codes "+    Get global Sentinel configuration parameter." ++ (line_end ++ (
    codes "+GET-MASTER-ADDR-BY-NAME <master-name>" ++ (line_end ++ (
    codes "+    Return the ip and port number of the master with that name." ++ (line_end ++ (
    codes "+FAILOVER <master-name>" ++ (line_end ++ (
    codes "+FLUSHCONFIG" ++ (line_end ++ (
    codes "+    Force Sentinel to rewrite its configuration on disk, including the current" ++ (line_end ++ (
    codes "+    Sentinel state." ++ (line_end ++ (
    codes "+INFO-CACHE <master-name>" ++ (line_end ++ (
    codes "+    Return last cached INFO output from masters and all its replicas." ++ (line_end ++ (
    codes "+IS-MASTER-DOWN-BY-ADDR <ip> <port> <current-epoch> <runid>" ++ (line_end ++ (
    codes "+    Check if the master specified by ip:port is down from current Sentinel's" ++ (line_end ++ (
    codes "+    point of view." ++ (line_end ++ (
    codes "+MASTER <master-name>" ++ (line_end ++ (
    codes "+    Show the state and info of the specified master." ++ (line_end ++ (
    codes "+MASTERS" ++ (line_end ++ (
    codes "+    Show a list of monitored masters and their state." ++ (line_end ++ (
    codes "+MYID" ++ (line_end ++ (
    codes "+    Return the ID of the Sentinel instance." ++ (line_end ++ (
    codes "+PENDING-SCRIPTS" ++ (line_end ++ (
    codes "+    Get pending scripts information." ++ (line_end ++ (
    codes "+REPLICAS <master-name>" ++ (line_end ++ (
    codes "+    Show a list of replicas for this master and their state." ++ (line_end ++ (
    codes "+SENTINELS <master-name>" ++ (line_end ++ (
    codes "+    Show a list of Sentinel instances for this master and their state." ++ (line_end ++ (
    codes "+HELP" ++ (line_end ++ (
    codes "+    Prints this help." ++ (line_end ++ (
    []))))))))))))))))))))))))))))))))))))))))))))))))))))))))))))))))))
sentinel_help_bytes = rw (thirty_two) refl

pub client_help_bytes : spelling (told_lines client_help) ≡
    codes "*33" ++ (line_end ++ (
    codes "+CLIENT <subcommand> [<arg> [value] [opt] ...]. Subcommands are:" ++ (line_end ++ (
    codes "+GETNAME" ++ (line_end ++ (
    codes "+    Return the name of the current connection." ++ (line_end ++ (
    codes "+ID" ++ (line_end ++ (
    codes "+    Return the ID of the current connection." ++ (line_end ++ (
    codes "+INFO" ++ (line_end ++ (
    codes "+    Return information about the current client connection." ++ (line_end ++ (
    codes "+KILL <ip:port>" ++ (line_end ++ (
    codes "+    Kill connection made from <ip:port>." ++ (line_end ++ (
    codes "+KILL <option> <value> [<option> <value> [...]]" ++ (line_end ++ (
    codes "+    Kill connections. Options are:" ++ (line_end ++ (
    codes "+    * ADDR (<ip:port>|<unixsocket>:0)" ++ (line_end ++ (
    codes "+      Kill connections made from the specified address" ++ (line_end ++ (
    codes "+    * LADDR (<ip:port>|<unixsocket>:0)" ++ (line_end ++ (
    codes "+      Kill connections made to specified local address" ++ (line_end ++ (
    codes "+    * TYPE (NORMAL|MASTER|REPLICA|PUBSUB)" ++ (line_end ++ (
    codes "+      Kill connections by type." ++ (line_end ++ (
    codes "+    * USER <username>" ++ (line_end ++ (
    codes "+      Kill connections authenticated by <username>." ++ (line_end ++ (
    codes "+    * SKIPME (YES|NO)" ++ (line_end ++ (
    codes "+      Skip killing current connection (default: yes)." ++ (line_end ++ (
    codes "+LIST [options ...]" ++ (line_end ++ (
    codes "+    Return information about client connections. Options:" ++ (line_end ++ (
    codes "+    * TYPE (NORMAL|MASTER|REPLICA|PUBSUB)" ++ (line_end ++ (
    codes "+      Return clients of specified type." ++ (line_end ++ (
    codes "+REPLY (ON|OFF|SKIP)" ++ (line_end ++ (
    codes "+    Control the replies sent to the current connection." ++ (line_end ++ (
    codes "+SETNAME <name>" ++ (line_end ++ (
    codes "+    Assign the name <name> to the current connection." ++ (line_end ++ (
    codes "+NO-EVICT (ON|OFF)" ++ (line_end ++ (
    codes "+    Protect current client connection from eviction." ++ (line_end ++ (
    codes "+HELP" ++ (line_end ++ (
    codes "+    Prints this help." ++ (line_end ++ (
    []))))))))))))))))))))))))))))))))))))))))))))))))))))))))))))))))))))
client_help_bytes = rw (thirty_three) refl

pub command_help_bytes : spelling (told_lines command_help) ≡
    codes "*17" ++ (line_end ++ (
    codes "+COMMAND <subcommand> [<arg> [value] [opt] ...]. Subcommands are:" ++ (line_end ++ (
    codes "+(no subcommand)" ++ (line_end ++ (
    codes "+    Return details about all Redis commands." ++ (line_end ++ (
    codes "+COUNT" ++ (line_end ++ (
    codes "+    Return the total number of commands in this Redis server." ++ (line_end ++ (
    codes "+LIST" ++ (line_end ++ (
    codes "+    Return a list of all commands in this Redis server." ++ (line_end ++ (
    codes "+INFO [<command-name> ...]" ++ (line_end ++ (
    codes "+    Return details about multiple Redis commands." ++ (line_end ++ (
    codes "+    If no command names are given, documentation details for all" ++ (line_end ++ (
    codes "+    commands are returned." ++ (line_end ++ (
    codes "+DOCS [<command-name> ...]" ++ (line_end ++ (
    codes "+    Return documentation details about multiple Redis commands." ++ (line_end ++ (
    codes "+    If no command names are given, documentation details for all" ++ (line_end ++ (
    codes "+    commands are returned." ++ (line_end ++ (
    codes "+HELP" ++ (line_end ++ (
    codes "+    Prints this help." ++ (line_end ++ (
    []))))))))))))))))))))))))))))))))))))
command_help_bytes = rw (seventeen) refl
