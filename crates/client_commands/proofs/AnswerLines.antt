-- No line of an answer holds a CR or LF, so each answer is one value on the wire.
use Rattle.std.proofs.Common.{◌≡◌, ◌≢◌, ◌+◌, ◌-◌, ◌||◌, ◌&&◌, ◌==◌, not, ℕ, zero, suc, List, [], ◌∷◌, ◌++◌, map, take, length, Option, None, Some, Bool, true, false, codes, refl, sym, ◌∙◌, ap, subst, arith}
use Rattle.std.specs.Prelude.{nat_lt, nat_le, bytes_eq}
use Rattle.std.specs.List.{list_all}
use Rattle.ballot_law.specs.Rosters.{MasterPlan, Roster}
use Rattle.ballot_law.specs.Words.{lower, canonical_within}
use Rattle.pubsub.specs.Answering.{wrong_arguments}
use Rattle.resp2.specs.Framing.Frame.{Frame, fault, bulk, IsLine, HasLines, HaveLines}
use Rattle.client_commands.specs.declared.verbs.Verb.{Verb}
use Rattle.client_commands.specs.declared.verbs.Verb.TheVariants.{Ping, Hello, Auth, SetName, SetInfo, GetName, Id, OfClients, Own, Kill, NoEvict, Reply, HelpOfClient, Commands, Docs, Count, InfoOfCommands, ListOfCommands, HelpOfCommand, Role, Publish, Info, Sentinel}
use Rattle.client_commands.specs.declared.subcommands.Sub.{Sub}
use Rattle.client_commands.specs.declared.subcommands.Sub.TheVariants.{Help, PendingScripts, InfoCache, Config, SetOption, Monitor, Remove, Reset, Simulate, Debug}
use Rattle.client_commands.specs.declared.hellos.Expects.{Expects}
use Rattle.client_commands.specs.declared.hellos.Expects.TheVariants.{Start, User, Password, NewName}
use Rattle.client_commands.specs.Refusals.{is_called, printed_byte, printed, unknown_subcommand, shown_words, unknown_command, no_option, wrong_password, no_password, no_auth, no_auth_yet, not_while_listening}
use Rattle.resp2.proofs.PlainLines.{is_plain_byte, plain, checked, joined}
use Rattle.resp2.specs.Commands.{redis_command_of}
use Rattle.client_commands.specs.Courtesies as table
use Rattle.client_commands.specs.declared.choosing.ClientKind.{ClientKind}
use Rattle.client_commands.specs.Choosing.{Wanted, Chosen, fits, unfit, anyone, kind_named, no_kind, no_number, with_spared, with_user, with_option, with_options, chosen_by}
use Rattle.client_commands.specs.Subcommands.{sub_name, all_subs, sub_among, takes_count, not_at_runtime, no_trials, only_get}
use Rattle.client_commands.proofs.PlainLines.{told_have_lines, names_lines}
use Rattle.client_commands.proofs.TableLines.{table_lines, docs_lines, info_lines, list_of_lines}
use Rattle.client_commands.specs.Helps.{sentinel_help, client_help, command_help}
use Rattle.client_commands.specs.declared.protocols.Protocol.{Protocol}
use Rattle.client_commands.specs.Protocols.{protocol_asked}
use Rattle.client_commands.specs.Sections.{is_told}
use Rattle.client_commands.specs.Courtesies.{ClientInfo, Answer, left, said, asks_info, silent, Looked, known, refused, verb_name, Greeted, greeted, expected, taken, is_user, is_password, is_some, admits, is_stranger, lacks_password, greeted_by, is_client_name, may_be_name, bad_name, is_integer, after_first, first, or_else, hello_map, answered, asks_nothing, reply_to, courtesy, or_left}
use Rattle.client_commands.proofs.Silence.{asked_is, unasked_is}

-- ---- lines

around : (before word after : List ℕ) → list_all is_plain_byte before ≡ true → IsLine word → IsLine after → IsLine (before ++ (word ++ after))
around before word after h k l = joined before (word ++ after) (checked before h) (joined word after k l)

shown_byte : (b : ℕ) (test : Bool) → ((b == 13) || (b == 10)) ≡ test
    → (elim test as (λ _. ℕ) [ true ↦ 32 | false ↦ b ] ≢ 13) × (elim test as (λ _. ℕ) [ true ↦ 32 | false ↦ b ] ≢ 10)
shown_byte b true e = (omega arith, omega arith)
shown_byte b false e = plain b (ap not e)

byte_line : (b : ℕ) → (printed_byte b ≢ 13) × (printed_byte b ≢ 10)
byte_line b = shown_byte b ((b == 13) || (b == 10)) refl

shown : (word : List ℕ) → IsLine (map printed_byte word)
shown [] = tt
shown (b ∷ word) = (byte_line b, shown word)

either_line : (test : Bool) (one two : List ℕ) → IsLine one → IsLine two → IsLine (elim test as (λ _. List ℕ) [ true ↦ one | false ↦ two ])
either_line true one two h k = h
either_line false one two h k = k

words_line : (count : ℕ) (words : List (List ℕ)) → IsLine (shown_words count words)
words_line count [] = tt
words_line count (word ∷ words) =
    either_line (nat_lt count 128) _ _
    (around (codes "'") (printed (128 - count) word) _ refl (shown (take (128 - count) word))
    (joined (codes "' ") _ (checked (codes "' ") refl) (words_line (count + length (take (128 - count) word) + 3) words)))
    tt

-- ---- refusals

arguments_line : (name : List ℕ) → IsLine name → HasLines (wrong_arguments name)
arguments_line name h = around (codes "ERR wrong number of arguments for '") name (codes "' command") refl h (checked (codes "' command") refl)

subcommand_line : (help word : List ℕ) → IsLine help → HasLines (unknown_subcommand help word)
subcommand_line help word h =
    around (codes "ERR unknown subcommand '") (printed 128 word) (codes "'. Try " ++ help) refl (shown (take 128 word))
    (joined (codes "'. Try ") help (checked (codes "'. Try ") refl) h)

unknown_line : (name : List ℕ) (words : List (List ℕ)) → HasLines (unknown_command name words)
unknown_line name words =
    around (codes "ERR unknown command '") (printed 128 name) (codes "', with args beginning with: " ++ shown_words 0 words) refl (shown (take 128 name))
    (joined (codes "', with args beginning with: ") (shown_words 0 words) (checked (codes "', with args beginning with: ") refl) (words_line 0 words))

option_line : (word : List ℕ) → HasLines (no_option word)
option_line word = around (codes "ERR Syntax error in HELLO option '") (printed (length word) word) (codes "'") refl (shown (take (length word) word)) (checked (codes "'") refl)

sub_line : (sub : Sub) → IsLine (sub_name sub)
sub_line Help = checked (codes "sentinel|help") refl
sub_line PendingScripts = checked (codes "sentinel|pending-scripts") refl
sub_line InfoCache = checked (codes "sentinel|info-cache") refl
sub_line Config = checked (codes "sentinel|config") refl
sub_line SetOption = checked (codes "sentinel|set") refl
sub_line Monitor = checked (codes "sentinel|monitor") refl
sub_line Remove = checked (codes "sentinel|remove") refl
sub_line Reset = checked (codes "sentinel|reset") refl
sub_line Simulate = checked (codes "sentinel|simulate-failure") refl
sub_line Debug = checked (codes "sentinel|debug") refl

verb_line : (verb : Verb) → IsLine (verb_name verb)
verb_line Ping = checked (codes "ping") refl
verb_line Hello = checked (codes "hello") refl
verb_line Auth = checked (codes "auth") refl
verb_line SetName = checked (codes "client|setname") refl
verb_line SetInfo = checked (codes "client|setinfo") refl
verb_line GetName = checked (codes "client|getname") refl
verb_line Id = checked (codes "client|id") refl
verb_line OfClients = checked (codes "client|list") refl
verb_line Own = checked (codes "client|info") refl
verb_line Kill = checked (codes "client|kill") refl
verb_line NoEvict = checked (codes "client|no-evict") refl
verb_line Reply = checked (codes "client|reply") refl
verb_line HelpOfClient = checked (codes "client|help") refl
verb_line Commands = checked (codes "command") refl
verb_line Docs = checked (codes "command|docs") refl
verb_line Count = checked (codes "command|count") refl
verb_line InfoOfCommands = checked (codes "command|info") refl
verb_line ListOfCommands = checked (codes "command|list") refl
verb_line HelpOfCommand = checked (codes "command|help") refl
verb_line Role = checked (codes "role") refl
verb_line Publish = checked (codes "publish") refl
verb_line Info = checked (codes "info") refl
verb_line (Sentinel sub) = sub_line sub

listener_line : (verb : Verb) → HasLines (not_while_listening (verb_name verb))
listener_line verb =
    around (codes "ERR Can't execute '") (verb_name verb) (codes "': only (P|S)SUBSCRIBE / (P|S)UNSUBSCRIBE / PING / QUIT / RESET are allowed in this context") refl
    (verb_line verb)
    (checked (codes "': only (P|S)SUBSCRIBE / (P|S)UNSUBSCRIBE / PING / QUIT / RESET are allowed in this context") refl)

-- ---- the commands

abbrev AreLines : Looked → Type 0
AreLines (known verb words) = Unit {0}
AreLines (refused refusal) = HasLines refusal

both : (test : Bool) (one two : Looked) → AreLines one → AreLines two → AreLines (elim test as (λ _. Looked) [ true ↦ one | false ↦ two ])
both true one two h k = h
both false one two h k = k

taken_lines : (verb : Verb) (enough : Bool) (words : List (List ℕ)) → AreLines (taken verb enough words)
taken_lines verb enough words = both enough _ _ tt (arguments_line (verb_name verb) (verb_line verb))

clients_lines : (word : List ℕ) (words : List (List ℕ)) → AreLines (table.clients_named word words)
clients_lines word words =
    both (is_called (codes "list") word) _ _ tt
    (both (is_called (codes "info") word) _ _ (taken_lines Own (length words == 0) words)
    (both (is_called (codes "kill") word) _ _ (taken_lines Kill (nat_lt 0 (length words)) words)
    (both (is_called (codes "help") word) _ _ (taken_lines HelpOfClient (length words == 0) words)
    (subcommand_line (codes "CLIENT HELP.") word (checked (codes "CLIENT HELP.") refl)))))

client_lines : (words : List (List ℕ)) → AreLines (table.client words)
client_lines [] = arguments_line (codes "client") (checked (codes "client") refl)
client_lines (word ∷ words) =
    both (is_called (codes "setname") word) _ _ (taken_lines SetName (length words == 1) words)
    (both (is_called (codes "setinfo") word) _ _ (taken_lines SetInfo (length words == 2) words)
    (both (is_called (codes "getname") word) _ _ (taken_lines GetName (length words == 0) words)
    (both (is_called (codes "id") word) _ _ (taken_lines Id (length words == 0) words)
    (both (is_called (codes "no-evict") word) _ _ (taken_lines NoEvict (length words == 1) words)
    (both (is_called (codes "reply") word) _ _ (taken_lines Reply (length words == 1) words) (clients_lines word words))))))

command_lines : (words : List (List ℕ)) → AreLines (table.command words)
command_lines [] = tt
command_lines (word ∷ words) =
    both (is_called (codes "docs") word) _ _ tt
    (both (is_called (codes "count") word) _ _ (taken_lines Count (length words == 0) words)
    (both (is_called (codes "info") word) _ _ tt
    (both (is_called (codes "list") word) _ _ tt
    (both (is_called (codes "help") word) _ _ (taken_lines HelpOfCommand (length words == 0) words)
    (subcommand_line (codes "COMMAND HELP.") word (checked (codes "COMMAND HELP.") refl))))))

sub_lines : (sub : Option Sub) (word : List ℕ) (words : List (List ℕ)) → AreLines (table.subcommand sub word words)
sub_lines None word words = subcommand_line (codes "SENTINEL HELP.") word (checked (codes "SENTINEL HELP.") refl)
sub_lines (Some sub) word words = taken_lines (Sentinel sub) (takes_count sub (length words)) words

sentinel_lines : (miscounted : Bool) (words : List (List ℕ)) → AreLines (table.sentinel miscounted words)
sentinel_lines miscounted [] = arguments_line (codes "sentinel") (checked (codes "sentinel") refl)
sentinel_lines miscounted (word ∷ words) =
    both miscounted _ _ (arguments_line (codes "sentinel|" ++ map printed_byte (lower word)) (joined (codes "sentinel|") _ (checked (codes "sentinel|") refl) (shown (lower word))))
    (sub_lines (sub_among all_subs word) word words)

other_lines : (miscounted : Bool) (name : List ℕ) (words : List (List ℕ)) → AreLines (table.other_named miscounted name words)
other_lines miscounted name words =
    both (is_called (codes "role") name) _ _ (taken_lines Role (length words == 0) words)
    (both (is_called (codes "publish") name) _ _ (taken_lines Publish (length words == 2) words)
    (both (is_called (codes "info") name) _ _ tt
    (both (is_called (codes "sentinel") name) _ _ (sentinel_lines miscounted words)
    (both (is_called (codes "subscribe") name) _ _ (arguments_line (codes "subscribe") (checked (codes "subscribe") refl)) (unknown_line name words)))))

looked_up_lines : (miscounted : Bool) (name : List ℕ) (words : List (List ℕ)) → AreLines (table.looked_up miscounted name words)
looked_up_lines miscounted name words =
    both (is_called (codes "ping") name) _ _ (taken_lines Ping (nat_le (length words) 1) words)
    (both (is_called (codes "hello") name) _ _ tt
    (both (is_called (codes "auth") name) _ _ (taken_lines Auth (nat_lt 0 (length words)) words)
    (both (is_called (codes "client") name) _ _ (client_lines words)
    (both (is_called (codes "command") name) _ _ (command_lines words) (other_lines miscounted name words)))))

-- ---- what each is answered

one_of : (test : Bool) (one two : Frame) → HasLines one → HasLines two → HasLines (elim test as (λ _. Frame) [ true ↦ one | false ↦ two ])
one_of true one two h k = h
one_of false one two h k = k

ok_line : HasLines table.ok
ok_line = checked (codes "OK") refl

syntax_line : HasLines (fault (codes "ERR syntax error"))
syntax_line = checked (codes "ERR syntax error") refl

password_line : HasLines (fault (codes "WRONGPASS invalid username-password pair or user is disabled."))
password_line = checked (codes "WRONGPASS invalid username-password pair or user is disabled.") refl

name_line : HasLines (fault (codes "ERR Client names cannot contain spaces, newlines or special characters."))
name_line = checked (codes "ERR Client names cannot contain spaces, newlines or special characters.") refl

long_name_line : HasLines (fault (codes "ERR Client names cannot be longer than 256 bytes."))
long_name_line = checked (codes "ERR Client names cannot be longer than 256 bytes.") refl

bad_name_line : (word : List ℕ) → HasLines (bad_name word)
bad_name_line word = one_of (is_client_name word) _ _ long_name_line name_line

abbrev IsLineOrNone : Option Frame → Type 0
IsLineOrNone None = Unit {0}
IsLineOrNone (Some refusal) = HasLines refusal

next_lines : (wanted : Option (List ℕ)) (next : Option Expects) (word name : List ℕ) (admitted : Bool) (words : List (List ℕ))
    → ((e : Expects) → IsLineOrNone (greeted wanted e word name admitted words).refusal)
    → IsLineOrNone (elim next as (λ _. Greeted) [
      | Some e ↦ greeted wanted e word name admitted words
      | None ↦ record { name = name; admitted = admitted; refusal = Some (no_option word) }
    ]).refusal
next_lines wanted (Some e) word name admitted words each = each e
next_lines wanted None word name admitted words each = option_line word

given_lines : (test : Bool) (name : List ℕ) (admitted : Bool) (g : Greeted) → IsLineOrNone g.refusal
    → IsLineOrNone (elim test as (λ _. Greeted) [ true ↦ g | false ↦ record { name = name; admitted = admitted; refusal = Some wrong_password } ]).refusal
given_lines true name admitted g h = h
given_lines false name admitted g h = password_line

named_lines : (test : Bool) (word name : List ℕ) (admitted : Bool) (g : Greeted) → IsLineOrNone g.refusal
    → IsLineOrNone (elim test as (λ _. Greeted) [ true ↦ g | false ↦ record { name = name; admitted = admitted; refusal = Some (bad_name word) } ]).refusal
named_lines true word name admitted g h = h
named_lines false word name admitted g h = bad_name_line word

greeted_lines : (wanted : Option (List ℕ)) (expects : Expects) (option name : List ℕ) (admitted : Bool) (words : List (List ℕ))
    → IsLineOrNone (greeted wanted expects option name admitted words).refusal
greeted_lines wanted Start option name admitted [] = tt
greeted_lines wanted User option name admitted [] = option_line option
greeted_lines wanted (Password familiar) option name admitted [] = option_line option
greeted_lines wanted NewName option name admitted [] = option_line option
greeted_lines wanted Start option name admitted (word ∷ words) =
    next_lines wanted (expected word) word name admitted words (λ (next : Expects). greeted_lines wanted next word name admitted words)
greeted_lines wanted User option name admitted (word ∷ words) = greeted_lines wanted (Password (is_user word)) option name admitted words
greeted_lines wanted (Password familiar) option name admitted (word ∷ words) =
    given_lines (familiar && is_password wanted word) name admitted _ (greeted_lines wanted Start option name true words)
greeted_lines wanted NewName option name admitted (word ∷ words) =
    named_lines (may_be_name word) word name admitted _ (greeted_lines wanted Start option word admitted words)

map_lines : (protocol : Protocol) (id : ℕ) → HasLines (hello_map protocol id)
map_lines protocol id = (tt, (tt, (tt, (tt, (tt, (tt, (tt, (tt, (tt, (tt, (tt, (tt, tt))))))))))))

or_else_lines : (refusal : Option Frame) (answer : Frame) → IsLineOrNone refusal → HasLines answer → HasLines (or_else refusal answer)
or_else_lines None answer h k = k
or_else_lines (Some refusal) answer h k = h

no_auth_line : HasLines no_auth
no_auth_line = checked (codes "NOAUTH Authentication required.") refl

no_auth_yet_line : HasLines no_auth_yet
no_auth_yet_line =
    checked
    (codes "NOAUTH HELLO must be called with the client already authenticated, otherwise the HELLO AUTH <user> <pass> option can be used to authenticate the client"
    ++ codes " and select the RESP protocol version at the same time")
    refl

welcome_lines : (asker : ClientInfo) (protocol : Protocol) (g : Greeted) → IsLineOrNone g.refusal → HasLines (table.welcome asker protocol g)
welcome_lines asker protocol g h = or_else_lines g.refusal _ h (one_of (lacks_password asker.password g.admitted) _ _ no_auth_yet_line (map_lines protocol asker.id))

hello_for_lines : (asker : ClientInfo) (words : List (List ℕ)) (asked : Option Protocol) → HasLines (table.hello_for asker words asked)
hello_for_lines asker words (Some protocol) =
    welcome_lines asker protocol (greeted_by asker words) (greeted_lines asker.password Start [] asker.name asker.admitted (after_first words))
hello_for_lines asker words None =
    one_of (is_integer (first words)) _ _ (checked (codes "NOPROTO unsupported protocol version") refl)
    (checked (codes "ERR Protocol version is not an integer or out of range") refl)

hello_lines : (asker : ClientInfo) (words : List (List ℕ)) → HasLines (table.hello asker words)
hello_lines asker words = hello_for_lines asker words (protocol_asked asker.protocol words)

no_password_line : HasLines no_password
no_password_line =
    checked (codes "ERR AUTH <password> called without any password configured for the default user. Are you sure your configuration is correct?") refl

unadmitted_lines : (wanted : Option (List ℕ)) (count : ℕ) → HasLines (table.unadmitted wanted count)
unadmitted_lines wanted count =
    one_of (count == 1) _ _ (one_of (is_some wanted) _ _ password_line no_password_line) (one_of (count == 2) _ _ password_line syntax_line)

auth_lines : (wanted : Option (List ℕ)) (words : List (List ℕ)) → HasLines (table.auth wanted words)
auth_lines wanted words = one_of (admits wanted words) _ _ ok_line (unadmitted_lines wanted (length words))

get_name_lines : (name : List ℕ) → HasLines (table.get_name name)
get_name_lines [] = tt
get_name_lines (b ∷ name) = tt

publish_lines : (words : List (List ℕ)) → HasLines (table.publish words)
publish_lines words =
    one_of (table.is_hello_channel (first words)) _ _ tt (checked (codes "ERR Only HELLO messages are accepted by Sentinel instances.") refl)

-- ---- clients of the port

quoted_line : (before word : List ℕ) → list_all is_plain_byte before ≡ true → IsLine (before ++ (printed (length word) word ++ codes "'"))
quoted_line before word h = around before (printed (length word) word) (codes "'") h (shown (take (length word) word)) (checked (codes "'") refl)

kind_lines : (kind : Option ClientKind) (word : List ℕ) (answer : ClientKind → Frame) → ((k : ClientKind) → HasLines (answer k))
    → HasLines (elim kind as (λ _. Frame) [ Some k ↦ answer k | None ↦ no_kind word ])
kind_lines None word answer each = quoted_line (codes "ERR Unknown client type '") word refl
kind_lines (Some k) word answer each = each k

list_lines : (asker : ClientInfo) (words : List (List ℕ)) → HasLines (table.client_list asker words)
list_lines asker [] = tt
list_lines asker (option ∷ []) = syntax_line
list_lines asker (option ∷ value ∷ words) =
    one_of (is_called (codes "id") option) _ _ (one_of (list_all is_integer (value ∷ words)) _ _ tt (checked (codes "ERR Invalid client ID") refl))
    (one_of (is_called (codes "type") option && (length words == 0)) _ _ (kind_lines (kind_named value) value
    (λ (k : ClientKind). bulk (table.lines_of asker (codes "client|list") (let w : Wanted = record (anyone false) { kind = Some k } in w))) (λ (k : ClientKind). tt))
    syntax_line)

abbrev AreChosenLines : Chosen → Type 0
AreChosenLines (fits wanted) = Unit {0}
AreChosenLines (unfit refusal) = HasLines refusal

a_chosen : (test : Bool) (one two : Chosen) → AreChosenLines one → AreChosenLines two → AreChosenLines (elim test as (λ _. Chosen) [ true ↦ one | false ↦ two ])
a_chosen true one two h k = h
a_chosen false one two h k = k

id_lines : (wanted : Wanted) (number : Option ℕ)
    → AreChosenLines (elim number as (λ _. Chosen) [ Some n ↦ fits (let w : Wanted = record wanted { id = Some n } in w) | None ↦ unfit no_number ])
id_lines wanted None = checked (codes "ERR client-id should be greater than 0") refl
id_lines wanted (Some n) = tt

of_kind_lines : (wanted : Wanted) (kind : Option ClientKind) (word : List ℕ)
    → AreChosenLines (elim kind as (λ _. Chosen) [ Some k ↦ fits (let w : Wanted = record wanted { kind = Some k } in w) | None ↦ unfit (no_kind word) ])
of_kind_lines wanted None word = quoted_line (codes "ERR Unknown client type '") word refl
of_kind_lines wanted (Some k) word = tt

spared_lines : (wanted : Wanted) (word : List ℕ) → AreChosenLines (with_spared wanted word)
spared_lines wanted word =
    a_chosen (is_called (codes "yes") word) _ _ tt (a_chosen (is_called (codes "no") word) _ _ tt syntax_line)

user_lines : (wanted : Wanted) (word : List ℕ) → AreChosenLines (with_user wanted word)
user_lines wanted word = a_chosen (bytes_eq word (codes "default")) _ _ tt (quoted_line (codes "ERR No such user '") word refl)

one_option_lines : (wanted : Wanted) (option value : List ℕ) → AreChosenLines (with_option wanted option value)
one_option_lines wanted option value =
    a_chosen (is_called (codes "id") option) _ _ (id_lines wanted (canonical_within 1 9223372036854775807 value))
    (a_chosen (is_called (codes "type") option) _ _ (of_kind_lines wanted (kind_named value) value)
    (a_chosen (is_called (codes "addr") option) _ _ tt
    (a_chosen (is_called (codes "laddr") option) _ _ tt
    (a_chosen (is_called (codes "user") option) _ _ (user_lines wanted value)
    (a_chosen (is_called (codes "skipme") option) _ _ (spared_lines wanted value) syntax_line)))))

then_lines : (chosen : Chosen) (next : Wanted → Chosen) → AreChosenLines chosen → ((w : Wanted) → AreChosenLines (next w))
    → AreChosenLines (elim chosen as (λ _. Chosen) [ fits w ↦ next w | unfit refusal ↦ unfit refusal ])
then_lines (fits w) next h each = each w
then_lines (unfit refusal) next h each = h

options_lines : (wanted : Wanted) (words : List (List ℕ)) → AreChosenLines (with_options wanted words)
options_lines wanted [] = tt
options_lines wanted (option ∷ []) = syntax_line
options_lines wanted (option ∷ value ∷ words) =
    then_lines (with_option wanted option value) (λ (w : Wanted). with_options w words) (one_option_lines wanted option value) (λ (w : Wanted). options_lines w words)

chosen_lines : (words : List (List ℕ)) → AreChosenLines (chosen_by words)
chosen_lines [] = syntax_line
chosen_lines (word ∷ []) = tt
chosen_lines (option ∷ value ∷ words) = options_lines (anyone true) (option ∷ value ∷ words)

count_lines : (by_address : Bool) (count : ℕ) → HasLines (table.killed_of by_address count)
count_lines true count = one_of (count == 0) _ _ (checked (codes "ERR No such client") refl) ok_line
count_lines false count = tt

killed_lines : (asker : ClientInfo) (by_address : Bool) (chosen : Chosen) → AreChosenLines chosen → HasLines (table.kill_answer asker by_address chosen)
killed_lines asker by_address (fits wanted) h = count_lines by_address (length (table.doomed asker (fits wanted)))
killed_lines asker by_address (unfit refusal) h = h

-- ---- subcommands of SENTINEL

uncached_lines : (n : ℕ) → HaveLines (table.uncached n)
uncached_lines zero = tt
uncached_lines (suc n) = ((tt, (tt, tt)), uncached_lines n)

cached_lines : (masters : List MasterPlan) → HaveLines (table.cached masters)
cached_lines [] = tt
cached_lines (master ∷ masters) = (tt, (uncached_lines (length master.nodes), cached_lines masters))

only_line : HasLines only_get
only_line = checked (codes "ERR Only SENTINEL CONFIG GET <option> / SET <option> <value> are supported.") refl

runtime_line : (command : List ℕ) → list_all is_plain_byte command ≡ true → HasLines (not_at_runtime command)
runtime_line command h =
    around (codes "ERR SENTINEL ") command _ refl (checked command h)
    (checked (codes " isn't supported: masters, nodes and settings are those of the files, and " ++ codes "docs/OPERATING.md says how these are changed") refl)

trial_line : (command : List ℕ) → list_all is_plain_byte command ≡ true → HasLines (no_trials command)
trial_line command h =
    around (codes "ERR SENTINEL ") command _ refl (checked command h)
    (checked (codes " isn't supported: docs/TRYING_IT.md says how failures are tried") refl)

config_lines : (asker : ClientInfo) (words : List (List ℕ)) → HasLines (table.config asker words)
config_lines asker [] = only_line
config_lines asker (mode ∷ []) = only_line
config_lines asker (mode ∷ pattern ∷ []) =
    one_of (is_called (codes "get") mode) _ _ (names_lines (table.settings (lower pattern) asker.port.figures)) only_line
config_lines asker (mode ∷ option ∷ value ∷ []) =
    one_of (is_called (codes "set") mode) _ _ (runtime_line (codes "CONFIG SET") refl) only_line
config_lines asker (mode ∷ option ∷ value ∷ next ∷ words) = only_line

told_lines_of : (roster : Roster) (asker : ClientInfo) (sub : Sub) (words : List (List ℕ)) → HasLines (table.sentinel_told roster asker sub words)
told_lines_of roster asker Help words = told_have_lines sentinel_help refl
told_lines_of roster asker PendingScripts words = tt
told_lines_of roster asker InfoCache words = cached_lines (table.named_masters words roster.masters)
told_lines_of roster asker Config words = config_lines asker words
told_lines_of roster asker SetOption words = runtime_line (codes "SET") refl
told_lines_of roster asker Monitor words = runtime_line (codes "MONITOR") refl
told_lines_of roster asker Remove words = runtime_line (codes "REMOVE") refl
told_lines_of roster asker Reset words = runtime_line (codes "RESET") refl
told_lines_of roster asker Simulate words = trial_line (codes "SIMULATE-FAILURE") refl
told_lines_of roster asker Debug words = trial_line (codes "DEBUG") refl

abbrev AreAnswerLines : Answer → Type 0
AreAnswerLines left = Unit {0}
AreAnswerLines (said answer) = HasLines answer
AreAnswerLines asks_info = Unit {0}
AreAnswerLines silent = ⊥

one_answer : (test : Bool) (one two : Answer) → AreAnswerLines one → AreAnswerLines two → AreAnswerLines (elim test as (λ _. Answer) [ true ↦ one | false ↦ two ])
one_answer true one two h k = h
one_answer false one two h k = k

executed_lines : (roster : Roster) (asker : ClientInfo) (verb : Verb) (words : List (List ℕ)) → AreAnswerLines (table.executed roster asker verb words)
executed_lines roster asker Ping words = tt
executed_lines roster asker Hello words = hello_lines asker words
executed_lines roster asker Auth words = auth_lines asker.password words
executed_lines roster asker SetName words = one_of (may_be_name (first words)) _ _ ok_line (bad_name_line (first words))
executed_lines roster asker SetInfo words = ok_line
executed_lines roster asker GetName words = get_name_lines asker.name
executed_lines roster asker Id words = tt
executed_lines roster asker OfClients words = list_lines asker words
executed_lines roster asker Own words = tt
executed_lines roster asker Kill words = killed_lines asker (length words == 1) (chosen_by words) (chosen_lines words)
executed_lines roster asker NoEvict words = one_of (is_called (codes "on") (first words) || is_called (codes "off") (first words)) _ _ ok_line syntax_line
executed_lines roster asker Reply words = one_of (is_called (codes "on") (first words)) _ _ ok_line syntax_line
executed_lines roster asker HelpOfClient words = told_have_lines client_help refl
executed_lines roster asker Commands words = table_lines
executed_lines roster asker Docs words = docs_lines words
executed_lines roster asker Count words = tt
executed_lines roster asker InfoOfCommands words = info_lines words
executed_lines roster asker ListOfCommands words = list_of_lines words
executed_lines roster asker HelpOfCommand words = told_have_lines command_help refl
executed_lines roster asker Role words = (tt, (names_lines (table.names_of roster.masters), tt))
executed_lines roster asker Publish words = publish_lines words
executed_lines roster asker Info words = one_answer (is_told (codes "sentinel") words) _ _ tt tt
executed_lines roster asker (Sentinel sub) words = told_lines_of roster asker sub words

listening_lines : (verb : Verb) (words : List (List ℕ)) → HasLines (table.while_listening verb words)
listening_lines Ping words = (tt, (tt, tt))
listening_lines Hello words = listener_line Hello
listening_lines Auth words = listener_line Auth
listening_lines SetName words = listener_line SetName
listening_lines SetInfo words = listener_line SetInfo
listening_lines GetName words = listener_line GetName
listening_lines Id words = listener_line Id
listening_lines OfClients words = listener_line OfClients
listening_lines Own words = listener_line Own
listening_lines Kill words = listener_line Kill
listening_lines NoEvict words = listener_line NoEvict
listening_lines Reply words = listener_line Reply
listening_lines HelpOfClient words = listener_line HelpOfClient
listening_lines Commands words = listener_line Commands
listening_lines Docs words = listener_line Docs
listening_lines Count words = listener_line Count
listening_lines InfoOfCommands words = listener_line InfoOfCommands
listening_lines ListOfCommands words = listener_line ListOfCommands
listening_lines HelpOfCommand words = listener_line HelpOfCommand
listening_lines Role words = listener_line Role
listening_lines Publish words = listener_line Publish
listening_lines Info words = listener_line Info
listening_lines (Sentinel sub) words = listener_line (Sentinel sub)

answered_lines : (roster : Roster) (asker : ClientInfo) (looked : Looked) → AreLines looked → AreAnswerLines (answered roster asker looked)
answered_lines roster asker (known verb words) h =
    one_answer asker.listens _ _ (listening_lines verb words) (executed_lines roster asker verb words)
answered_lines roster asker (refused refusal) h = h

abbrev AreLinesOrNone : Option Looked → Type 0
AreLinesOrNone None = Unit {0}
AreLinesOrNone (Some looked) = AreLines looked

maybe : (test : Bool) (one two : Option Looked) → AreLinesOrNone one → AreLinesOrNone two → AreLinesOrNone (elim test as (λ _. Option Looked) [ true ↦ one | false ↦ two ])
maybe true one two h k = h
maybe false one two h k = k

in_lines : (asker : ClientInfo) (miscounted : Bool) (words : List (List ℕ)) → AreLinesOrNone (table.looked_up_in asker miscounted words)
in_lines asker miscounted [] = tt
in_lines asker miscounted (name ∷ words) =
    maybe (table.names_channels (name ∷ words) || table.is_barred asker name) _ _ tt (looked_up_lines miscounted name words)

or_left_lines : (roster : Roster) (asker : ClientInfo) (looked : Option Looked) → AreLinesOrNone looked → AreAnswerLines (or_left roster asker looked)
or_left_lines roster asker None h = one_answer (is_stranger asker) _ _ no_auth_line tt
or_left_lines roster asker (Some looked) h = answered_lines roster asker looked h

reply_lines : (roster : Roster) (asker : ClientInfo) (value : Frame) → AreAnswerLines (reply_to roster asker value)
reply_lines roster asker value =
    one_answer (table.is_refused (redis_command_of value)) _ _
    (or_left_lines roster asker (table.looked_up_in asker (table.is_miscounted (redis_command_of value)) (table.words_of value))
    (in_lines asker (table.is_miscounted (redis_command_of value)) (table.words_of value)))
    (one_answer (is_stranger asker) _ _ no_auth_line tt)

said_by : (roster : Roster) (asker : ClientInfo) (value answer : Frame) (test : Bool) → asks_nothing value ≡ test → courtesy roster asker value ≡ said answer → HasLines answer
said_by roster asker value answer true h is = absurd (let no = sym (unasked_is roster asker value h) ∙ is in cc)
said_by roster asker value answer false h is = subst AreAnswerLines (sym (asked_is roster asker value h) ∙ is) (reply_lines roster asker value)

pub said_has_lines : (roster : Roster) (asker : ClientInfo) (value answer : Frame) → courtesy roster asker value ≡ said answer → HasLines answer
said_has_lines roster asker value answer is = said_by roster asker value answer (asks_nothing value) refl is

silent_by : (roster : Roster) (asker : ClientInfo) (value : Frame) (test : Bool) → asks_nothing value ≡ test → courtesy roster asker value ≡ silent → asks_nothing value ≡ true
silent_by roster asker value true h is = h
silent_by roster asker value false h is = absurd (subst AreAnswerLines (sym (asked_is roster asker value h) ∙ is) (reply_lines roster asker value))

-- each value but these has an answer
pub silent_asks_nothing : (roster : Roster) (asker : ClientInfo) (value : Frame) → courtesy roster asker value ≡ silent → asks_nothing value ≡ true
silent_asks_nothing roster asker value is = silent_by roster asker value (asks_nothing value) refl is
