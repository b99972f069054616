-- What a port answers to the values that a Sentinel's rules call unknown, or refuse for their number of words.
use Rattle.std.specs.Prelude.{ℕ, zero, suc, pos, Bool, true, false, not, ◌||◌, ◌&&◌, ◌==◌, nat_lt, nat_le, List, [], ◌∷◌, ◌++◌, map, length, bytes_eq, codes, decimal, Option, Some, None, Result, Err}
use Rattle.std.specs.List.{list_all, list_any}
use Rattle.ballot_law.specs.declared.commands.Command.{Command}
use Rattle.ballot_law.specs.Rosters.{MasterPlan, Roster}
use Rattle.ballot_law.specs.Words.{lower, canonical_within, ip_text}
use Rattle.pubsub.specs.Answering.{wrong_arguments}
use Rattle.pubsub.specs.Globs.{matches}
use Rattle.resp2.specs.declared.command.CommandFault.{CommandFault}
use Rattle.resp2.specs.declared.command.CommandFault.TheVariants.{UnknownCommand, WrongArguments}
use Rattle.resp2.specs.Commands.{redis_command_of, words}
use Rattle.resp2.specs.Framing.Frame.{Frame, FrameList, simple, fault, int, bulk, null_bulk, items, null_items, no_frames, frame, frames_of, spelling}
use Rattle.client_commands.specs.declared.verbs.Verb.{Verb}
use Rattle.client_commands.specs.declared.verbs.Verb.TheVariants.{Ping, Hello, Auth, SetName, SetInfo, GetName, Id, OfClients, Own, Kill, NoEvict, Reply, HelpOfClient, Commands, Docs, Count, InfoOfCommands, ListOfCommands, HelpOfCommand, Role, Publish, Info, Sentinel}
use Rattle.client_commands.specs.declared.subcommands.Sub.{Sub}
use Rattle.client_commands.specs.declared.subcommands.Sub.TheVariants.{Help, PendingScripts, InfoCache, Config, SetOption, Monitor, Remove, Reset, Simulate, Debug}
use Rattle.client_commands.specs.declared.hellos.Expects.{Expects}
use Rattle.client_commands.specs.declared.hellos.TheConstants.{NAME_MAX}
use Rattle.client_commands.specs.declared.hellos.Expects.TheVariants.{Start, User, Password, NewName}
use Rattle.client_commands.specs.declared.courtesies.Courtesy.{Courtesy}
use Rattle.client_commands.specs.declared.courtesies.Courtesy.TheVariants.{Left, Said, AsksInfo}
use Rattle.client_commands.specs.declared.port_facts.Figures.{Figures}
use Rattle.client_commands.specs.Ports.{PortFacts}
use Rattle.client_commands.specs.declared.protocols.Protocol.{Protocol}
use Rattle.client_commands.specs.Protocols.{version, protocol_asked}
use Rattle.client_commands.specs.Choosing.{Wanted, Chosen, fits, unfit, anyone, kind_named, no_kind, chosen_by, places_of}
use Rattle.client_commands.specs.ClientLines.{client_lines}
use Rattle.client_commands.specs.Sections.{is_told, port_sections}
use Rattle.client_commands.specs.Subcommands.{sub_name, all_subs, sub_among, takes_count, not_at_runtime, no_trials, only_get}
use Rattle.client_commands.specs.Rows.{families}
use Rattle.client_commands.specs.Tables.{table, command_info, command_docs, command_list}
use Rattle.client_commands.specs.Helps.{told_lines, sentinel_help, client_help, command_help}
use Rattle.client_commands.specs.Refusals.{is_called, printed_byte, unknown_subcommand, unknown_command, syntax_error, wrong_password, no_password, no_auth, no_auth_yet, no_name, long_name, no_such_protocol, no_protocol, no_option, no_hello, not_while_listening}

-- what is known of a connection: its number, the name that its client gave it, which protocol it speaks, whether it listens and so has no other commands, the password
-- that is wanted of its client, where one is, and whether the client gave it; the Sentinel's current epoch as it was last told, where that was; and what its port knows
pub record ClientInfo : Type 0 where
  pub id : ℕ
  pub name : List ℕ
  pub protocol : Protocol
  pub listens : Bool
  pub password : Option (List ℕ)
  pub admitted : Bool
  pub current : Option ℕ
  pub port : PortFacts

-- what becomes of a value: the Sentinel's rules answer it, it is answered by this value, or by what INFO says of the
-- Sentinel too, or it has no answer
pub data Answer : Type 0 where
  left : Answer
  said : Frame → Answer
  asks_info : Answer
  silent : Answer

-- ---- which command the words are

-- the names of the commands, that of a subcommand after that of its command
abbrev pub verb_name : Verb → List ℕ
verb_name Ping = codes "ping"
verb_name Hello = codes "hello"
verb_name Auth = codes "auth"
verb_name SetName = codes "client|setname"
verb_name SetInfo = codes "client|setinfo"
verb_name GetName = codes "client|getname"
verb_name Id = codes "client|id"
verb_name OfClients = codes "client|list"
verb_name Own = codes "client|info"
verb_name Kill = codes "client|kill"
verb_name NoEvict = codes "client|no-evict"
verb_name Reply = codes "client|reply"
verb_name HelpOfClient = codes "client|help"
verb_name Commands = codes "command"
verb_name Docs = codes "command|docs"
verb_name Count = codes "command|count"
verb_name InfoOfCommands = codes "command|info"
verb_name ListOfCommands = codes "command|list"
verb_name HelpOfCommand = codes "command|help"
verb_name Role = codes "role"
verb_name Publish = codes "publish"
verb_name Info = codes "info"
verb_name (Sentinel sub) = sub_name sub

-- a command with the words after its name, or why there is none
pub data Looked : Type 0 where
  known : Verb → List (List ℕ) → Looked
  refused : Frame → Looked

-- the command and the words after it, where there is one
abbrev pub found : Looked → Option (Verb × List (List ℕ))
found (known verb words) = Some (verb, words)
found (refused refusal) = None

-- the text that was there, or the refusal in its place
abbrev pub text_after : List ℕ → Looked → List ℕ
text_after before (known verb words) = before
text_after before (refused refusal) = spelling refusal

-- the command, where it has as many words as it takes
abbrev pub taken : Verb → Bool → List (List ℕ) → Looked
taken verb enough words = elim enough [ true ↦ known verb words | false ↦ refused (wrong_arguments (verb_name verb)) ]

-- those about the clients of a port
abbrev pub clients_named : List ℕ → List (List ℕ) → Looked
clients_named word words =
    elim (is_called (codes "list") word) [
      | true ↦ known OfClients words
      | false ↦ elim (is_called (codes "info") word) [
        | true ↦ taken Own (length words == 0) words
        | false ↦ elim (is_called (codes "kill") word) [
          | true ↦ taken Kill (nat_lt 0 (length words)) words
          | false ↦ elim (is_called (codes "help") word) [
            | true ↦ taken HelpOfClient (length words == 0) words
            | false ↦ refused (unknown_subcommand (codes "CLIENT HELP.") word)
          ]
        ]
      ]
    ]

abbrev pub client_named : List ℕ → List (List ℕ) → Looked
client_named word words =
    elim (is_called (codes "setname") word) [
      | true ↦ taken SetName (length words == 1) words
      | false ↦ elim (is_called (codes "setinfo") word) [
        | true ↦ taken SetInfo (length words == 2) words
        | false ↦ elim (is_called (codes "getname") word) [
          | true ↦ taken GetName (length words == 0) words
          | false ↦ elim (is_called (codes "id") word) [
            | true ↦ taken Id (length words == 0) words
            | false ↦ elim (is_called (codes "no-evict") word) [
              | true ↦ taken NoEvict (length words == 1) words
              | false ↦ elim (is_called (codes "reply") word) [
                | true ↦ taken Reply (length words == 1) words
                | false ↦ clients_named word words
              ]
            ]
          ]
        ]
      ]
    ]

abbrev pub client : List (List ℕ) → Looked
client [] = refused (wrong_arguments (codes "client"))
client (word ∷ words) = client_named word words

abbrev pub command : List (List ℕ) → Looked
command [] = known Commands []
command (word ∷ words) =
    elim (is_called (codes "docs") word) [
      | true ↦ known Docs words
      | false ↦ elim (is_called (codes "count") word) [
        | true ↦ taken Count (length words == 0) words
        | false ↦ elim (is_called (codes "info") word) [
          | true ↦ known InfoOfCommands words
          | false ↦ elim (is_called (codes "list") word) [
            | true ↦ known ListOfCommands words
            | false ↦ elim (is_called (codes "help") word) [
              | true ↦ taken HelpOfCommand (length words == 0) words
              | false ↦ refused (unknown_subcommand (codes "COMMAND HELP.") word)
            ]
          ]
        ]
      ]
    ]

-- a subcommand that the Sentinel's rules don't know
abbrev pub subcommand : Option Sub → List ℕ → List (List ℕ) → Looked
subcommand None word words = refused (unknown_subcommand (codes "SENTINEL HELP.") word)
subcommand (Some sub) word words = taken (Sentinel sub) (takes_count sub (length words)) words

-- a subcommand of the Sentinel's rules with another number of words, or one that they don't know
abbrev pub sentinel : (miscounted : Bool) → List (List ℕ) → Looked
sentinel miscounted [] = refused (wrong_arguments (codes "sentinel"))
sentinel miscounted (word ∷ words) =
    elim miscounted [
      | true ↦ refused (wrong_arguments (codes "sentinel|" ++ map printed_byte (lower word)))
      | false ↦ subcommand (sub_among all_subs word) word words
    ]

-- a command that is none of those of a connection
abbrev pub other_named : (miscounted : Bool) → List ℕ → List (List ℕ) → Looked
other_named miscounted name words =
    elim (is_called (codes "role") name) [
      | true ↦ taken Role (length words == 0) words
      | false ↦ elim (is_called (codes "publish") name) [
        | true ↦ taken Publish (length words == 2) words
        | false ↦ elim (is_called (codes "info") name) [
          | true ↦ known Info words
          | false ↦ elim (is_called (codes "sentinel") name) [
            | true ↦ sentinel miscounted words
            | false ↦ elim (is_called (codes "subscribe") name) [
              | true ↦ refused (wrong_arguments (codes "subscribe"))
              | false ↦ refused (unknown_command name words)
            ]
          ]
        ]
      ]
    ]

-- The command with this name and these words. Where the rules of the Sentinel know it, they refused it as `miscounted`
abbrev pub looked_up : (miscounted : Bool) → List ℕ → List (List ℕ) → Looked
looked_up miscounted name words =
    elim (is_called (codes "ping") name) [
      | true ↦ taken Ping (nat_le (length words) 1) words
      | false ↦ elim (is_called (codes "hello") name) [
        | true ↦ known Hello words
        | false ↦ elim (is_called (codes "auth") name) [
          | true ↦ taken Auth (nat_lt 0 (length words)) words
          | false ↦ elim (is_called (codes "client") name) [
            | true ↦ client words
            | false ↦ elim (is_called (codes "command") name) [ true ↦ command words | false ↦ other_named miscounted name words ]
          ]
        ]
      ]
    ]

-- ---- passwords

abbrev pub is_some : {X : Type 0} → Option X → Bool
is_some None = false
is_some (Some x) = true

-- a password is wanted that wasn't given
abbrev pub lacks_password : (wanted : Option (List ℕ)) → (admitted : Bool) → Bool
lacks_password None admitted = false
lacks_password (Some password) admitted = not admitted

abbrev pub is_stranger : ClientInfo → Bool
is_stranger asker = lacks_password asker.password asker.admitted

-- the whole password that is wanted; any word where none is
abbrev pub is_password : (wanted : Option (List ℕ)) → List ℕ → Bool
is_password None word = true
is_password (Some password) word = bytes_eq word password

-- the commands by which a client gives its password
abbrev pub is_for_strangers : (name : List ℕ) → Bool
is_for_strangers name = is_called (codes "auth") name || is_called (codes "hello") name

-- a client that didn't give its password has no other command, whether there is one with this name or none
abbrev pub is_barred : ClientInfo → (name : List ℕ) → Bool
is_barred asker name = is_stranger asker && not (is_for_strangers name)

-- ---- what each is answered

abbrev pub ok : Frame
ok = simple (codes "OK")

abbrev pub first : List (List ℕ) → List ℕ
first [] = []
first (word ∷ words) = word

-- no space, and nothing that isn't printed
abbrev pub is_name_byte : ℕ → Bool
is_name_byte b = nat_le 33 b && nat_le b 126

abbrev pub is_client_name : List ℕ → Bool
is_client_name word = list_all is_name_byte word

-- which isn't too long
abbrev pub may_be_name : List ℕ → Bool
may_be_name word = is_client_name word && nat_le (length word) NAME_MAX

-- why a word isn't taken as a name
abbrev pub bad_name : List ℕ → Frame
bad_name word = elim (is_client_name word) [ true ↦ long_name | false ↦ no_name ]

-- there is this user and no other
abbrev pub is_user : List ℕ → Bool
is_user word = bytes_eq word (codes "default")

-- a list of values as the clients of protocol 2 get a map: each name before its value
abbrev pub hello_map : Protocol → ℕ → Frame
hello_map protocol id =
    items (frames_of (bulk (codes "server") ∷ bulk (codes "redis") ∷ bulk (codes "version") ∷ bulk (codes "7.2.0") ∷ bulk (codes "proto") ∷ int (pos (version protocol))
    ∷ bulk (codes "id") ∷ int (pos id) ∷ bulk (codes "mode") ∷ bulk (codes "sentinel") ∷ bulk (codes "modules") ∷ items no_frames ∷ []))

abbrev pub is_negative : List ℕ → Bool
is_negative [] = false
is_negative (b ∷ bs) = (b == 45) && is_some (canonical_within 1 9223372036854775808 bs)

-- a number of 64 bits with a sign
abbrev pub is_integer : List ℕ → Bool
is_integer word = is_some (canonical_within 0 9223372036854775807 word) || is_negative word

-- the name that the options of HELLO leave a connection, whether its client gave the password then, and why they are refused, if so
pub record Greeted : Type 0 where
  pub name : List ℕ
  pub admitted : Bool
  pub refusal : Option Frame

-- what the next word is to be after the name of an option
abbrev pub expected : List ℕ → Option Expects
expected word =
    elim (is_called (codes "auth") word) [ true ↦ Some User | false ↦ elim (is_called (codes "setname") word) [ true ↦ Some NewName | false ↦ None ] ]

-- each option in turn, from a word that is expected after the option; what comes after the first option that is refused has no effect
abbrev pub greeted : (wanted : Option (List ℕ)) → Expects → (option name : List ℕ) → (admitted : Bool) → List (List ℕ) → Greeted
greeted wanted Start option name admitted [] = record { name = name; admitted = admitted; refusal = None }
greeted wanted User option name admitted [] = record { name = name; admitted = admitted; refusal = Some (no_option option) }
greeted wanted (Password familiar) option name admitted [] = record { name = name; admitted = admitted; refusal = Some (no_option option) }
greeted wanted NewName option name admitted [] = record { name = name; admitted = admitted; refusal = Some (no_option option) }
greeted wanted Start option name admitted (word ∷ words) =
    elim (expected word) [
      | Some next ↦ greeted wanted next word name admitted words
      | None ↦ record { name = name; admitted = admitted; refusal = Some (no_option word) }
    ]
greeted wanted User option name admitted (word ∷ words) = greeted wanted (Password (is_user word)) option name admitted words
greeted wanted (Password familiar) option name admitted (word ∷ words) =
    elim (familiar && is_password wanted word) [
      | true ↦ greeted wanted Start option name true words
      | false ↦ record { name = name; admitted = admitted; refusal = Some wrong_password }
    ]
greeted wanted NewName option name admitted (word ∷ words) =
    elim (may_be_name word) [
      | true ↦ greeted wanted Start option word admitted words
      | false ↦ record { name = name; admitted = admitted; refusal = Some (bad_name word) }
    ]

abbrev pub or_else : Option Frame → Frame → Frame
or_else None answer = answer
or_else (Some refusal) answer = refusal

-- the text that was there, or the refusal in its place
abbrev pub refusal_text : List ℕ → Option Frame → List ℕ
refusal_text before None = before
refusal_text before (Some refusal) = spelling refusal

abbrev pub after_first : List (List ℕ) → List (List ℕ)
after_first [] = []
after_first (word ∷ words) = words

-- what the options of HELLO with these words leave a connection
abbrev pub greeted_by : ClientInfo → List (List ℕ) → Greeted
greeted_by asker words = greeted asker.password Start [] asker.name asker.admitted (after_first words)

-- HELLO is answered to clients alone that gave the password before it or with it
abbrev pub greeting_of : ClientInfo → Protocol → (admitted : Bool) → Frame
greeting_of asker protocol admitted = elim (lacks_password asker.password admitted) [ true ↦ no_auth_yet | false ↦ hello_map protocol asker.id ]

abbrev pub welcome : ClientInfo → Protocol → Greeted → Frame
welcome asker protocol g = or_else g.refusal (greeting_of asker protocol g.admitted)

-- the number of no protocol, or no number
abbrev pub no_version : List ℕ → Frame
no_version word = elim (is_integer word) [ true ↦ no_such_protocol | false ↦ no_protocol ]

abbrev pub hello_for : ClientInfo → List (List ℕ) → Option Protocol → Frame
hello_for asker words None = no_version (first words)
hello_for asker words (Some protocol) = welcome asker protocol (greeted_by asker words)

abbrev pub hello : ClientInfo → List (List ℕ) → Frame
hello asker words = hello_for asker words (protocol_asked asker.protocol words)

-- the name that a connection has after HELLO
abbrev pub name_for : ClientInfo → List (List ℕ) → Option Protocol → List ℕ
name_for asker words None = asker.name
name_for asker words (Some protocol) = (greeted_by asker words).name

abbrev pub hello_name : ClientInfo → List (List ℕ) → List ℕ
hello_name asker words = name_for asker words (protocol_asked asker.protocol words)

-- whether the client gave the password then
abbrev pub admitted_for : ClientInfo → List (List ℕ) → Option Protocol → Bool
admitted_for asker words None = asker.admitted
admitted_for asker words (Some protocol) = (greeted_by asker words).admitted

abbrev pub hello_admitted : ClientInfo → List (List ℕ) → Bool
hello_admitted asker words = admitted_for asker words (protocol_asked asker.protocol words)

-- which protocol the connection speaks then: the one for which HELLO asks, unless an option is refused or the client is still to give the password
abbrev pub speaks_then : ClientInfo → (barred admitted : Bool) → Protocol → Protocol
speaks_then asker barred admitted protocol = elim (barred || lacks_password asker.password admitted) [ true ↦ asker.protocol | false ↦ protocol ]

abbrev pub protocol_for : ClientInfo → List (List ℕ) → Option Protocol → Protocol
protocol_for asker words None = asker.protocol
protocol_for asker words (Some protocol) = speaks_then asker (is_some (greeted_by asker words).refusal) (greeted_by asker words).admitted protocol

abbrev pub hello_protocol : ClientInfo → List (List ℕ) → Protocol
hello_protocol asker words = protocol_for asker words (protocol_asked asker.protocol words)

-- AUTH with these words is answered OK: a password that is wanted, or a user and its password
abbrev pub admits : (wanted : Option (List ℕ)) → List (List ℕ) → Bool
admits wanted [] = false
admits wanted (word ∷ []) = is_some wanted && is_password wanted word
admits wanted (user ∷ word ∷ []) = is_user user && is_password wanted word
admits wanted (user ∷ word ∷ next ∷ words) = false

-- why AUTH with so many words isn't answered OK
abbrev pub unadmitted : (wanted : Option (List ℕ)) → (count : ℕ) → Frame
unadmitted wanted count =
    elim (count == 1) [
      | true ↦ elim (is_some wanted) [ true ↦ wrong_password | false ↦ no_password ]
      | false ↦ elim (count == 2) [ true ↦ wrong_password | false ↦ syntax_error ]
    ]

abbrev pub auth : (wanted : Option (List ℕ)) → List (List ℕ) → Frame
auth wanted words = elim (admits wanted words) [ true ↦ ok | false ↦ unadmitted wanted (length words) ]

abbrev pub set_name : List (List ℕ) → Frame
set_name words = elim (may_be_name (first words)) [ true ↦ ok | false ↦ bad_name (first words) ]

abbrev pub get_name : List ℕ → Frame
get_name [] = null_bulk
get_name (b ∷ bs) = bulk (b ∷ bs)

-- ---- clients of the port

-- the text of the clients that are wanted, by this command
abbrev pub lines_of : ClientInfo → (last : List ℕ) → Wanted → List ℕ
lines_of asker last wanted = client_lines asker.id asker.name asker.protocol last asker.port wanted asker.port.clients

abbrev pub own_line : ClientInfo → Frame
own_line asker = bulk (lines_of asker (codes "client|info") (record (anyone false) { id = Some asker.id }))

-- the line of the client with the number that the word is, where there is one
abbrev pub numbered_line : ClientInfo → List ℕ → List ℕ
numbered_line asker word =
    elim (canonical_within 1 9223372036854775807 word) [ Some number ↦ lines_of asker (codes "client|list") (record (anyone false) { id = Some number }) | None ↦ [] ]

abbrev pub numbered_lines : ClientInfo → List (List ℕ) → List ℕ
numbered_lines asker [] = []
numbered_lines asker (word ∷ words) = numbered_line asker word ++ numbered_lines asker words

abbrev pub listed_by_numbers : ClientInfo → List (List ℕ) → Frame
listed_by_numbers asker words =
    elim (list_all is_integer words) [ true ↦ bulk (numbered_lines asker words) | false ↦ fault (codes "ERR Invalid client ID") ]

abbrev pub listed_by_kind : ClientInfo → List ℕ → Frame
listed_by_kind asker word =
    elim (kind_named word) [ Some kind ↦ bulk (lines_of asker (codes "client|list") (record (anyone false) { kind = Some kind })) | None ↦ no_kind word ]

-- an option with the words after it, of which there is one at least
abbrev pub listed_by : ClientInfo → (option value : List ℕ) → List (List ℕ) → Frame
listed_by asker option value words =
    elim (is_called (codes "id") option) [
      | true ↦ listed_by_numbers asker (value ∷ words)
      | false ↦ elim (is_called (codes "type") option && (length words == 0)) [ true ↦ listed_by_kind asker value | false ↦ syntax_error ]
    ]

abbrev pub client_list : ClientInfo → List (List ℕ) → Frame
client_list asker [] = bulk (lines_of asker (codes "client|list") (anyone false))
client_list asker (option ∷ []) = syntax_error
client_list asker (option ∷ value ∷ words) = listed_by asker option value words

-- the places of the clients that are chosen; none where the words choose none
abbrev pub doomed : ClientInfo → Chosen → List ℕ
doomed asker (fits wanted) = places_of asker.id asker.port.killed wanted asker.port.clients
doomed asker (unfit refusal) = []

-- by an address there is a client or none, by options as many as there are
abbrev pub killed_of : (by_address : Bool) → (count : ℕ) → Frame
killed_of true count = elim (count == 0) [ true ↦ fault (codes "ERR No such client") | false ↦ ok ]
killed_of false count = int (pos count)

abbrev pub kill_answer : ClientInfo → (by_address : Bool) → Chosen → Frame
kill_answer asker by_address (fits wanted) = killed_of by_address (length (doomed asker (fits wanted)))
kill_answer asker by_address (unfit refusal) = refusal

abbrev pub kill : ClientInfo → List (List ℕ) → Frame
kill asker words = kill_answer asker (length words == 1) (chosen_by words)

-- ---- subcommands of SENTINEL

-- nothing is kept of an INFO
abbrev pub uncached : ℕ → FrameList
uncached zero = no_frames
uncached (suc n) = frame (items (frames_of (int (pos 0) ∷ null_bulk ∷ []))) (uncached n)

-- the masters that a word names
abbrev pub named_masters : List (List ℕ) → List MasterPlan → List MasterPlan
named_masters words [] = []
named_masters words (master ∷ masters) =
    elim (list_any (bytes_eq master.name) words) as (λ _. List MasterPlan) [
      | true ↦ master ∷ named_masters words masters
      | false ↦ named_masters words masters
    ]

-- of each its name, and what is kept of its data nodes
abbrev pub cached : List MasterPlan → FrameList
cached [] = no_frames
cached (master ∷ masters) = frame (bulk master.name) (frame (items (uncached (length master.nodes))) (cached masters))

-- a setting and its value, where the pattern matches its name
abbrev pub setting : (pattern name value : List ℕ) → List (List ℕ)
setting pattern name value = elim (matches pattern name) [ true ↦ name ∷ value ∷ [] | false ↦ [] ]

-- the settings of all Sentinels that redis-sentinel tells: no host is told by its name, and no password is shown
unfoldable pub settings : (pattern : List ℕ) → Figures → List (List ℕ)
settings pattern figures =
    setting pattern (codes "resolve-hostnames") (codes "no")
    ++ (setting pattern (codes "announce-hostnames") (codes "no")
    ++ (setting pattern (codes "announce-ip") (ip_text figures.address.ip)
    ++ (setting pattern (codes "announce-port") (decimal figures.address.port)
    ++ (setting pattern (codes "sentinel-user") [] ++ setting pattern (codes "sentinel-pass") []))))

abbrev pub config_get : ClientInfo → (pattern : List ℕ) → Frame
config_get asker pattern = items (frames_of (map bulk (settings (lower pattern) asker.port.figures)))

abbrev pub config : ClientInfo → List (List ℕ) → Frame
config asker (mode ∷ pattern ∷ []) = elim (is_called (codes "get") mode) [ true ↦ config_get asker pattern | false ↦ only_get ]
config asker (mode ∷ option ∷ value ∷ []) = elim (is_called (codes "set") mode) [ true ↦ not_at_runtime (codes "CONFIG SET") | false ↦ only_get ]
config asker words = only_get

abbrev pub sentinel_told : Roster → ClientInfo → Sub → List (List ℕ) → Frame
sentinel_told roster asker Help words = told_lines sentinel_help
sentinel_told roster asker PendingScripts words = items no_frames
sentinel_told roster asker InfoCache words = items (cached (named_masters words roster.masters))
sentinel_told roster asker Config words = config asker words
sentinel_told roster asker SetOption words = not_at_runtime (codes "SET")
sentinel_told roster asker Monitor words = not_at_runtime (codes "MONITOR")
sentinel_told roster asker Remove words = not_at_runtime (codes "REMOVE")
sentinel_told roster asker Reset words = not_at_runtime (codes "RESET")
sentinel_told roster asker Simulate words = no_trials (codes "SIMULATE-FAILURE")
sentinel_told roster asker Debug words = no_trials (codes "DEBUG")

-- ---- CLIENT, ROLE, PUBLISH

abbrev pub no_evict : List (List ℕ) → Frame
no_evict words = elim (is_called (codes "on") (first words) || is_called (codes "off") (first words)) [ true ↦ ok | false ↦ syntax_error ]

-- each value has its answer, so a client can't do without
abbrev pub reply : List (List ℕ) → Frame
reply words = elim (is_called (codes "on") (first words)) [ true ↦ ok | false ↦ syntax_error ]

abbrev pub names_of : List MasterPlan → List (List ℕ)
names_of [] = []
names_of (master ∷ masters) = master.name ∷ names_of masters

abbrev pub role : List (List ℕ) → Frame
role masters = items (frames_of (bulk (codes "sentinel") ∷ items (frames_of (map bulk masters)) ∷ []))

-- the channel on which Sentinels say hello
abbrev pub is_hello_channel : List ℕ → Bool
is_hello_channel word = bytes_eq word (codes "__sentinel__:hello")

-- what others say isn't heard
abbrev pub publish : List (List ℕ) → Frame
publish words = elim (is_hello_channel (first words)) [ true ↦ int (pos 1) | false ↦ no_hello ]

-- the answer to INFO: what its port knows is said at once, where no word asks for more
abbrev pub info_answer : ClientInfo → List (List ℕ) → Answer
info_answer asker words =
    elim (is_told (codes "sentinel") words) as (λ _. Answer) [ true ↦ asks_info | false ↦ said (bulk (port_sections words asker.port.figures)) ]

-- the answer to a command of a connection that doesn't listen
abbrev pub executed : Roster → ClientInfo → Verb → List (List ℕ) → Answer
executed roster asker Ping words = said (bulk (first words))
executed roster asker Hello words = said (hello asker words)
executed roster asker Auth words = said (auth asker.password words)
executed roster asker SetName words = said (set_name words)
executed roster asker SetInfo words = said ok
executed roster asker GetName words = said (get_name asker.name)
executed roster asker Id words = said (int (pos asker.id))
executed roster asker OfClients words = said (client_list asker words)
executed roster asker Own words = said (own_line asker)
executed roster asker Kill words = said (kill asker words)
executed roster asker NoEvict words = said (no_evict words)
executed roster asker Reply words = said (reply words)
executed roster asker HelpOfClient words = said (told_lines client_help)
executed roster asker Commands words = said table
executed roster asker Docs words = said (command_docs words)
executed roster asker Count words = said (int (pos (length families)))
executed roster asker InfoOfCommands words = said (command_info words)
executed roster asker ListOfCommands words = said (command_list words)
executed roster asker HelpOfCommand words = said (told_lines command_help)
executed roster asker Role words = said (role (names_of roster.masters))
executed roster asker Publish words = said (publish words)
executed roster asker Info words = info_answer asker words
executed roster asker (Sentinel sub) words = said (sentinel_told roster asker sub words)

-- the answer to PING of a connection that listens
abbrev pub pong : List (List ℕ) → Frame
pong words = items (frames_of (bulk (codes "pong") ∷ bulk (first words) ∷ []))

-- a connection that listens has an answer to PING alone
abbrev pub while_listening : Verb → List (List ℕ) → Frame
while_listening Ping words = pong words
while_listening verb words = not_while_listening (verb_name verb)

-- the name that a connection has after a command
abbrev pub name_after : ClientInfo → Verb → List (List ℕ) → List ℕ
name_after asker SetName words = elim (may_be_name (first words)) [ true ↦ first words | false ↦ asker.name ]
name_after asker Hello words = hello_name asker words
name_after asker verb words = asker.name

-- whether its client gave the password then
abbrev pub admitted_after : ClientInfo → Verb → List (List ℕ) → Bool
admitted_after asker Auth words = asker.admitted || admits asker.password words
admitted_after asker Hello words = hello_admitted asker words
admitted_after asker verb words = asker.admitted

-- which protocol it speaks then
abbrev pub protocol_after : ClientInfo → Verb → List (List ℕ) → Protocol
protocol_after asker Hello words = hello_protocol asker words
protocol_after asker verb words = asker.protocol

-- the clients that are to be closed after it
abbrev pub killed_after : ClientInfo → Verb → List (List ℕ) → List ℕ
killed_after asker Kill words = asker.port.killed ++ doomed asker (chosen_by words)
killed_after asker verb words = asker.port.killed

-- ---- the answer to a value

abbrev pub words_of : Frame → List (List ℕ)
words_of (items fs) = words fs
words_of value = []

abbrev pub is_miscounted : Result Command CommandFault → Bool
is_miscounted (Err WrongArguments) = true
is_miscounted asked = false

-- the rules of the Sentinel call it unknown, or refuse its number of words
abbrev pub is_refused : Result Command CommandFault → Bool
is_refused (Err UnknownCommand) = true
is_refused (Err WrongArguments) = true
is_refused asked = false

-- SUBSCRIBE with channels is left to the session
abbrev pub names_channels : List (List ℕ) → Bool
names_channels [] = false
names_channels (name ∷ []) = false
names_channels (name ∷ word ∷ words) = is_called (codes "subscribe") name

abbrev pub answered : Roster → ClientInfo → Looked → Answer
answered roster asker (refused refusal) = said refusal
answered roster asker (known verb words) = elim asker.listens [ true ↦ said (while_listening verb words) | false ↦ executed roster asker verb words ]

abbrev pub named : ClientInfo → Looked → List ℕ
named asker (refused refusal) = asker.name
named asker (known verb words) = elim asker.listens [ true ↦ asker.name | false ↦ name_after asker verb words ]

abbrev pub admitted_by : ClientInfo → Looked → Bool
admitted_by asker (refused refusal) = asker.admitted
admitted_by asker (known verb words) = elim asker.listens [ true ↦ asker.admitted | false ↦ admitted_after asker verb words ]

abbrev pub protocol_by : ClientInfo → Looked → Protocol
protocol_by asker (refused refusal) = asker.protocol
protocol_by asker (known verb words) = elim asker.listens [ true ↦ asker.protocol | false ↦ protocol_after asker verb words ]

abbrev pub killed_by : ClientInfo → Looked → List ℕ
killed_by asker (refused refusal) = asker.port.killed
killed_by asker (known verb words) = elim asker.listens [ true ↦ asker.port.killed | false ↦ killed_after asker verb words ]

abbrev pub looked_up_in : ClientInfo → (miscounted : Bool) → List (List ℕ) → Option Looked
looked_up_in asker miscounted [] = None
looked_up_in asker miscounted (name ∷ words) =
    elim (names_channels (name ∷ words) || is_barred asker name) [ true ↦ None | false ↦ Some (looked_up miscounted name words) ]

-- the command that the rules of the Sentinel leave to the courtesies, where they do
abbrev pub left_over : ClientInfo → Frame → Option Looked
left_over asker value =
    elim (is_refused (redis_command_of value)) [ true ↦ looked_up_in asker (is_miscounted (redis_command_of value)) (words_of value) | false ↦ None ]

abbrev pub unless_stranger : ClientInfo → Answer → Answer
unless_stranger asker answer = elim (is_stranger asker) [ true ↦ said no_auth | false ↦ answer ]

abbrev pub or_left : Roster → ClientInfo → Option Looked → Answer
or_left roster asker None = unless_stranger asker left
or_left roster asker (Some looked) = answered roster asker looked

abbrev pub or_same : ClientInfo → Option Looked → List ℕ
or_same asker None = asker.name
or_same asker (Some looked) = named asker looked

abbrev pub or_admitted : ClientInfo → Option Looked → Bool
or_admitted asker None = asker.admitted
or_admitted asker (Some looked) = admitted_by asker looked

abbrev pub or_protocol : ClientInfo → Option Looked → Protocol
or_protocol asker None = asker.protocol
or_protocol asker (Some looked) = protocol_by asker looked

abbrev pub or_killed : ClientInfo → Option Looked → List ℕ
or_killed asker None = asker.port.killed
or_killed asker (Some looked) = killed_by asker looked

-- an array without items asks for nothing
abbrev pub asks_nothing : Frame → Bool
asks_nothing (items no_frames) = true
asks_nothing null_items = true
asks_nothing value = false

-- the answer to a value that asks for something
abbrev pub reply_to : Roster → ClientInfo → Frame → Answer
reply_to roster asker value =
    elim (is_refused (redis_command_of value)) [
      | true ↦ or_left roster asker (looked_up_in asker (is_miscounted (redis_command_of value)) (words_of value))
      | false ↦ unless_stranger asker left
    ]

-- the answer to a value of a connection, at a Sentinel with this roster
abbrev pub courtesy : Roster → ClientInfo → Frame → Answer
courtesy roster asker value = elim (asks_nothing value) as (λ _. Answer) [ true ↦ silent | false ↦ reply_to roster asker value ]

-- what is known of the connection after it
abbrev pub asker_after : ClientInfo → Frame → ClientInfo
asker_after asker value =
    record asker {
      name = or_same asker (left_over asker value);
      protocol = or_protocol asker (left_over asker value);
      admitted = or_admitted asker (left_over asker value);
      port = record asker.port { killed = or_killed asker (left_over asker value) };
    }

-- ---- an answer as it is handed out

abbrev pub kind_of : Answer → Courtesy
kind_of left = Left
kind_of (said answer) = Said
kind_of asks_info = AsksInfo
kind_of silent = Said

-- its bytes on the wire, where it is known
abbrev pub text_of : Answer → List ℕ
text_of left = []
text_of (said answer) = spelling answer
text_of asks_info = []
text_of silent = []
