-- A client that didn't give the password which is wanted: each of its values is answered, and no other word than the whole password admits it.
use Rattle.std.proofs.Common.{◌≡◌, ◌∙◌, ◌&&◌, ◌||◌, ◌==◌, not, ℕ, List, [], ◌∷◌, length, codes, Option, None, Some, Bool, true, false, refl, sym, ap, true≢false}
use Rattle.std.specs.Prelude.{nat_lt, nat_le}
use Rattle.std.specs.List.{list_any}
use Rattle.std.proofs.lemmas.Bool.{and_parts}
use Rattle.ballot_law.specs.Rosters.{Roster}
use Rattle.resp2.specs.Commands.{redis_command_of}
use Rattle.resp2.specs.Framing.Frame.{Frame}
use Rattle.client_commands.specs.declared.verbs.Verb.{Verb}
use Rattle.client_commands.specs.declared.verbs.Verb.TheVariants.{Ping, Hello, Auth, SetName, SetInfo, GetName, Id, OfClients, Own, Kill, NoEvict, Reply, HelpOfClient, Commands, Docs, Count, InfoOfCommands, ListOfCommands, HelpOfCommand, Role, Publish, Info, Sentinel}
use Rattle.client_commands.specs.declared.subcommands.Sub.{Sub}
use Rattle.client_commands.specs.declared.hellos.Expects.{Expects}
use Rattle.client_commands.specs.declared.hellos.Expects.TheVariants.{Start, User, Password, NewName}
use Rattle.client_commands.specs.declared.courtesies.Courtesy.TheVariants.{Said}
use Rattle.client_commands.specs.Refusals.{is_called, no_auth, no_option, wrong_password}
use Rattle.client_commands.specs.Subcommands.{all_subs, sub_among, takes_count}
use Rattle.client_commands.specs.declared.protocols.Protocol.{Protocol}
use Rattle.client_commands.specs.Protocols.{protocol_asked}
use Rattle.client_commands.specs.Courtesies as table
use Rattle.client_commands.specs.Courtesies.{ClientInfo, Answer, left, said, Looked, known, refused, Greeted, greeted, expected, is_user, is_password, may_be_name, bad_name, is_some, after_first, lacks_password, is_stranger, is_for_strangers, admits, hello_admitted, admitted_by, or_admitted, answered, or_left, left_over, courtesy, asker_after, kind_of, words_of}

-- ---- each value is answered

one_kind : (test : Bool) (one two : Answer) → kind_of one ≡ Said → kind_of two ≡ Said → kind_of (elim test as (λ _. Answer) [ true ↦ one | false ↦ two ]) ≡ Said
one_kind true one two h k = h
one_kind false one two h k = k

-- what was looked up is answered without the Sentinel: it isn't INFO
abbrev Tells : Looked → Type 0
Tells (known Info words) = ⊥
Tells looked = Unit {0}

told : (roster : Roster) (asker : ClientInfo) (looked : Looked) → Tells looked → kind_of (answered roster asker looked) ≡ Said
told roster asker (refused refusal) h = refl
told roster asker (known Hello words) h = one_kind asker.listens _ _ refl refl
told roster asker (known Auth words) h = one_kind asker.listens _ _ refl refl
told roster asker (known Ping words) h = one_kind asker.listens _ _ refl refl
told roster asker (known SetName words) h = one_kind asker.listens _ _ refl refl
told roster asker (known SetInfo words) h = one_kind asker.listens _ _ refl refl
told roster asker (known GetName words) h = one_kind asker.listens _ _ refl refl
told roster asker (known Id words) h = one_kind asker.listens _ _ refl refl
told roster asker (known OfClients words) h = one_kind asker.listens _ _ refl refl
told roster asker (known Own words) h = one_kind asker.listens _ _ refl refl
told roster asker (known Kill words) h = one_kind asker.listens _ _ refl refl
told roster asker (known NoEvict words) h = one_kind asker.listens _ _ refl refl
told roster asker (known Reply words) h = one_kind asker.listens _ _ refl refl
told roster asker (known HelpOfClient words) h = one_kind asker.listens _ _ refl refl
told roster asker (known Commands words) h = one_kind asker.listens _ _ refl refl
told roster asker (known Docs words) h = one_kind asker.listens _ _ refl refl
told roster asker (known Count words) h = one_kind asker.listens _ _ refl refl
told roster asker (known InfoOfCommands words) h = one_kind asker.listens _ _ refl refl
told roster asker (known ListOfCommands words) h = one_kind asker.listens _ _ refl refl
told roster asker (known HelpOfCommand words) h = one_kind asker.listens _ _ refl refl
told roster asker (known Role words) h = one_kind asker.listens _ _ refl refl
told roster asker (known Publish words) h = one_kind asker.listens _ _ refl refl
told roster asker (known (Sentinel sub) words) h = one_kind asker.listens _ _ refl refl
told roster asker (known Info words) h = absurd h

pick : (test : Bool) (one two : Looked) → Tells one → Tells two → Tells (elim test as (λ _. Looked) [ true ↦ one | false ↦ two ])
pick true one two h k = h
pick false one two h k = k

-- the first two commands after PING are those by which a client gives its password
by_name : (is_hello is_auth : Bool) (hello auth rest : Looked) → (is_auth || is_hello) ≡ true → Tells hello → Tells auth
    → Tells (elim is_hello as (λ _. Looked) [ true ↦ hello | false ↦ elim is_auth as (λ _. Looked) [ true ↦ auth | false ↦ rest ] ])
by_name true is_auth hello auth rest named h k = h
by_name false true hello auth rest named h k = k
by_name false false hello auth rest named h k = absurd (true≢false (sym named))

doors_tell : (miscounted : Bool) (name : List ℕ) (words : List (List ℕ)) → is_for_strangers name ≡ true → Tells (table.looked_up miscounted name words)
doors_tell miscounted name words named =
    pick (is_called (codes "ping") name) _ _ (pick (nat_le (length words) 1) _ _ tt tt)
    (by_name (is_called (codes "hello") name) (is_called (codes "auth") name) _ _ _ named tt (pick (nat_lt 0 (length words)) _ _ tt tt))

none_told : (roster : Roster) (asker : ClientInfo) → is_stranger asker ≡ true → kind_of (or_left roster asker None) ≡ Said
none_told roster asker h = ap (λ (t : Bool). kind_of (elim t as (λ _. Answer) [ true ↦ said no_auth | false ↦ left ])) h

-- what a stranger asked is looked up only where it gives a password
told_of : (roster : Roster) (asker : ClientInfo) (channels stranger door : Bool) (looked : Looked) → is_stranger asker ≡ true → stranger ≡ true → (door ≡ true → Tells looked)
    → kind_of (or_left roster asker (elim (channels || (stranger && not door)) as (λ _. Option Looked) [ true ↦ None | false ↦ Some looked ])) ≡ Said
told_of roster asker true stranger door looked h is tells = none_told roster asker h
told_of roster asker false true true looked h is tells = told roster asker looked (tells refl)
told_of roster asker false true false looked h is tells = none_told roster asker h
told_of roster asker false false door looked h is tells = absurd (true≢false (sym is))

told_in : (roster : Roster) (asker : ClientInfo) (miscounted : Bool) (words : List (List ℕ)) → is_stranger asker ≡ true
    → kind_of (or_left roster asker (table.looked_up_in asker miscounted words)) ≡ Said
told_in roster asker miscounted [] h = none_told roster asker h
told_in roster asker miscounted (name ∷ words) h =
    told_of roster asker (table.names_channels (name ∷ words)) (is_stranger asker) (is_for_strangers name) (table.looked_up miscounted name words) h h
    (doors_tell miscounted name words)

pub strangers_are_answered : (roster : Roster) (asker : ClientInfo) (value : Frame) → is_stranger asker ≡ true → kind_of (courtesy roster asker value) ≡ Said
strangers_are_answered roster asker value h =
    one_kind (table.asks_nothing value) _ _ refl
    (one_kind (table.is_refused (redis_command_of value)) _ _
    (told_in roster asker (table.is_miscounted (redis_command_of value)) (words_of value) h)
    (ap (λ (t : Bool). kind_of (elim t as (λ _. Answer) [ true ↦ said no_auth | false ↦ table.left ])) h))

-- ---- HELLO and AUTH have the words after the name

-- the commands by which a client gives its password
abbrev gives : Verb → Bool
gives Hello = true
gives Auth = true
gives verb = false

-- such a command has these words
abbrev Keeps : (words : List (List ℕ)) → Looked → Type 0
Keeps words (known verb args) = gives verb ≡ true → args ≡ words
Keeps words (refused refusal) = Unit {0}

both : (words : List (List ℕ)) (test : Bool) (one two : Looked) → Keeps words one → Keeps words two → Keeps words (elim test as (λ _. Looked) [ true ↦ one | false ↦ two ])
both words true one two h k = h
both words false one two h k = k

other : (verb : Verb) (args words : List (List ℕ)) → gives verb ≡ false → gives verb ≡ true → args ≡ words
other verb args words h k = absurd (true≢false (sym k ∙ h))

taken_keeps : (words : List (List ℕ)) (verb : Verb) (fits : Bool) (args : List (List ℕ)) → (gives verb ≡ true → args ≡ words)
    → Keeps words (table.taken verb fits args)
taken_keeps words verb fits args h = both words fits _ _ h tt

clients_keep : (words : List (List ℕ)) (word : List ℕ) (args : List (List ℕ)) → Keeps words (table.clients_named word args)
clients_keep words word args =
    both words (is_called (codes "list") word) _ _ (other OfClients args words refl)
    (both words (is_called (codes "info") word) _ _ (taken_keeps words Own (length args == 0) args (other Own args words refl))
    (both words (is_called (codes "kill") word) _ _ (taken_keeps words Kill (nat_lt 0 (length args)) args (other Kill args words refl))
    (both words (is_called (codes "help") word) _ _ (taken_keeps words HelpOfClient (length args == 0) args (other HelpOfClient args words refl)) tt)))

client_keeps : (words args : List (List ℕ)) → Keeps words (table.client args)
client_keeps words [] = tt
client_keeps words (word ∷ args) =
    both words (is_called (codes "setname") word) _ _ (taken_keeps words SetName (length args == 1) args (other SetName args words refl))
    (both words (is_called (codes "setinfo") word) _ _ (taken_keeps words SetInfo (length args == 2) args (other SetInfo args words refl))
    (both words (is_called (codes "getname") word) _ _ (taken_keeps words GetName (length args == 0) args (other GetName args words refl))
    (both words (is_called (codes "id") word) _ _ (taken_keeps words Id (length args == 0) args (other Id args words refl))
    (both words (is_called (codes "no-evict") word) _ _ (taken_keeps words NoEvict (length args == 1) args (other NoEvict args words refl))
    (both words (is_called (codes "reply") word) _ _ (taken_keeps words Reply (length args == 1) args (other Reply args words refl)) (clients_keep words word args))))))

command_keeps : (words args : List (List ℕ)) → Keeps words (table.command args)
command_keeps words [] = other Commands [] words refl
command_keeps words (word ∷ args) =
    both words (is_called (codes "docs") word) _ _ (other Docs args words refl)
    (both words (is_called (codes "count") word) _ _ (taken_keeps words Count (length args == 0) args (other Count args words refl))
    (both words (is_called (codes "info") word) _ _ (other InfoOfCommands args words refl)
    (both words (is_called (codes "list") word) _ _ (other ListOfCommands args words refl)
    (both words (is_called (codes "help") word) _ _ (taken_keeps words HelpOfCommand (length args == 0) args (other HelpOfCommand args words refl)) tt))))

sub_keeps : (words : List (List ℕ)) (sub : Option Sub) (word : List ℕ) (args : List (List ℕ)) → Keeps words (table.subcommand sub word args)
sub_keeps words None word args = tt
sub_keeps words (Some sub) word args =
    taken_keeps words (Sentinel sub) (takes_count sub (length args)) args (other (Sentinel sub) args words refl)

sentinel_keeps : (words : List (List ℕ)) (miscounted : Bool) (args : List (List ℕ)) → Keeps words (table.sentinel miscounted args)
sentinel_keeps words miscounted [] = tt
sentinel_keeps words miscounted (word ∷ args) = both words miscounted _ _ tt (sub_keeps words (sub_among all_subs word) word args)

other_keeps : (miscounted : Bool) (name : List ℕ) (words : List (List ℕ)) → Keeps words (table.other_named miscounted name words)
other_keeps miscounted name words =
    both words (is_called (codes "role") name) _ _ (taken_keeps words Role (length words == 0) words (λ _. refl))
    (both words (is_called (codes "publish") name) _ _ (taken_keeps words Publish (length words == 2) words (λ _. refl))
    (both words (is_called (codes "info") name) _ _ (λ _. refl)
    (both words (is_called (codes "sentinel") name) _ _ (sentinel_keeps words miscounted words) (both words (is_called (codes "subscribe") name) _ _ tt tt))))

looked_up_keeps : (miscounted : Bool) (name : List ℕ) (words : List (List ℕ)) → Keeps words (table.looked_up miscounted name words)
looked_up_keeps miscounted name words =
    both words (is_called (codes "ping") name) _ _ (taken_keeps words Ping (nat_le (length words) 1) words (λ _. refl))
    (both words (is_called (codes "hello") name) _ _ (λ _. refl)
    (both words (is_called (codes "auth") name) _ _ (taken_keeps words Auth (nat_lt 0 (length words)) words (λ _. refl))
    (both words (is_called (codes "client") name) _ _ (client_keeps words words)
    (both words (is_called (codes "command") name) _ _ (command_keeps words words) (other_keeps miscounted name words)))))

-- ---- the password is one of them

abbrev Holds : Option (List ℕ) → List (List ℕ) → Type 0
Holds wanted words = list_any (is_password wanted) words ≡ true

either : (a b : Bool) → b ≡ true → (a || b) ≡ true
either true b h = refl
either false b h = h

further : (wanted : Option (List ℕ)) (word : List ℕ) (words : List (List ℕ)) → Holds wanted words → Holds wanted (word ∷ words)
further wanted word words h = either (is_password wanted word) (list_any (is_password wanted) words) h

found : (wanted : Option (List ℕ)) (word : List ℕ) (words : List (List ℕ)) → is_password wanted word ≡ true → Holds wanted (word ∷ words)
found wanted word words h = ap (λ (t : Bool). t || list_any (is_password wanted) words) h

after : (wanted : Option (List ℕ)) (words : List (List ℕ)) → Holds wanted (after_first words) → Holds wanted words
after wanted [] h = h
after wanted (word ∷ words) h = further wanted word words h

-- AUTH
admits_holds : (wanted : Option (List ℕ)) (words : List (List ℕ)) → admits wanted words ≡ true → Holds wanted words
admits_holds wanted [] h = absurd (true≢false (sym h))
admits_holds wanted (word ∷ []) h = found wanted word [] (and_parts (is_some wanted) (is_password wanted word) h).1
admits_holds wanted (user ∷ word ∷ []) h = further wanted user (word ∷ []) (found wanted word [] (and_parts (is_user user) (is_password wanted word) h).1)
admits_holds wanted (user ∷ word ∷ next ∷ words) h = absurd (true≢false (sym h))

-- HELLO: a client that wasn't admitted before these words and is after them
abbrev Needs : Option (List ℕ) → List (List ℕ) → Greeted → Type 0
Needs wanted words g = g.admitted ≡ true → Holds wanted words

never : {X : Type 0} (admitted : Bool) → admitted ≡ false → admitted ≡ true → X
never admitted h k = absurd (true≢false (sym k ∙ h))

next_needs : (wanted : Option (List ℕ)) (next : Option Expects) (word name : List ℕ) (admitted : Bool) (words : List (List ℕ)) → admitted ≡ false
    → ((e : Expects) → Needs wanted words (greeted wanted e word name admitted words))
    → Needs wanted (word ∷ words) (elim next as (λ _. Greeted) [
      | Some e ↦ greeted wanted e word name admitted words
      | None ↦ record { name = name; admitted = admitted; refusal = Some (no_option word) }
    ])
next_needs wanted (Some e) word name admitted words h each k = further wanted word words (each e k)
next_needs wanted None word name admitted words h each k = never admitted h k

password_needs : (wanted : Option (List ℕ)) (test : Bool) (familiar : Bool) (word name : List ℕ) (admitted : Bool) (words : List (List ℕ)) (g : Greeted)
    → admitted ≡ false → (familiar && is_password wanted word) ≡ test
    → Needs wanted (word ∷ words) (elim test as (λ _. Greeted) [ true ↦ g | false ↦ record { name = name; admitted = admitted; refusal = Some wrong_password } ])
password_needs wanted true familiar word name admitted words g h e k = found wanted word words (and_parts familiar (is_password wanted word) e).1
password_needs wanted false familiar word name admitted words g h e k = never admitted h k

name_needs : (wanted : Option (List ℕ)) (test : Bool) (word name : List ℕ) (admitted : Bool) (words : List (List ℕ)) (g : Greeted) → admitted ≡ false
    → Needs wanted words g
    → Needs wanted (word ∷ words) (elim test as (λ _. Greeted) [ true ↦ g | false ↦ record { name = name; admitted = admitted; refusal = Some (bad_name word) } ])
name_needs wanted true word name admitted words g h needs k = further wanted word words (needs k)
name_needs wanted false word name admitted words g h needs k = never admitted h k

greeted_needs : (wanted : Option (List ℕ)) (expects : Expects) (option name : List ℕ) (admitted : Bool) (words : List (List ℕ)) → admitted ≡ false
    → Needs wanted words (greeted wanted expects option name admitted words)
greeted_needs wanted Start option name admitted [] h = never admitted h
greeted_needs wanted User option name admitted [] h = never admitted h
greeted_needs wanted (Password familiar) option name admitted [] h = never admitted h
greeted_needs wanted NewName option name admitted [] h = never admitted h
greeted_needs wanted Start option name admitted (word ∷ words) h =
    next_needs wanted (expected word) word name admitted words h (λ (next : Expects). greeted_needs wanted next word name admitted words h)
greeted_needs wanted User option name admitted (word ∷ words) h =
    λ k. further wanted word words (greeted_needs wanted (Password (is_user word)) option name admitted words h k)
greeted_needs wanted (Password familiar) option name admitted (word ∷ words) h =
    password_needs wanted (familiar && is_password wanted word) familiar word name admitted words _ h refl
greeted_needs wanted NewName option name admitted (word ∷ words) h =
    name_needs wanted (may_be_name word) word name admitted words _ h (greeted_needs wanted Start option word admitted words h)

-- a truth of which one case is false
else_case : (test a b : Bool) → a ≡ false → elim test as (λ _. Bool) [ true ↦ a | false ↦ b ] ≡ true → b ≡ true
else_case true a b h k = never a h k
else_case false a b h k = k

or_case : (a b : Bool) → a ≡ false → (a || b) ≡ true → b ≡ true
or_case true b h k = never true h refl
or_case false b h k = k

-- HELLO for no protocol admits nobody
asked_for : (asker : ClientInfo) (words : List (List ℕ)) (asked : Option Protocol) → asker.admitted ≡ false → table.admitted_for asker words asked ≡ true
    → (table.greeted_by asker words).admitted ≡ true
asked_for asker words None h k = never asker.admitted h k
asked_for asker words (Some protocol) h k = k

hello_needs : (asker : ClientInfo) (words : List (List ℕ)) → asker.admitted ≡ false → hello_admitted asker words ≡ true → Holds asker.password words
hello_needs asker words h k =
    after asker.password words (greeted_needs asker.password Start [] asker.name asker.admitted (after_first words) h (asked_for asker words (protocol_asked asker.protocol words) h k))

-- ---- the whole

known_needs : (asker : ClientInfo) (verb : Verb) (words : List (List ℕ)) → asker.admitted ≡ false → admitted_by asker (known verb words) ≡ true →
    (gives verb ≡ true) × Holds asker.password words
known_needs asker Hello words h k =
    (refl, hello_needs asker words h (else_case asker.listens asker.admitted (hello_admitted asker words) h k))
known_needs asker Auth words h k = (
  refl,
  admits_holds asker.password words
      (or_case asker.admitted (admits asker.password words) h
      (else_case asker.listens asker.admitted (asker.admitted || admits asker.password words) h k)),
)
known_needs asker Ping words h k = never asker.admitted h (else_case asker.listens asker.admitted asker.admitted h k)
known_needs asker SetName words h k = never asker.admitted h (else_case asker.listens asker.admitted asker.admitted h k)
known_needs asker SetInfo words h k = never asker.admitted h (else_case asker.listens asker.admitted asker.admitted h k)
known_needs asker GetName words h k = never asker.admitted h (else_case asker.listens asker.admitted asker.admitted h k)
known_needs asker Id words h k = never asker.admitted h (else_case asker.listens asker.admitted asker.admitted h k)
known_needs asker OfClients words h k = never asker.admitted h (else_case asker.listens asker.admitted asker.admitted h k)
known_needs asker Own words h k = never asker.admitted h (else_case asker.listens asker.admitted asker.admitted h k)
known_needs asker Kill words h k = never asker.admitted h (else_case asker.listens asker.admitted asker.admitted h k)
known_needs asker NoEvict words h k = never asker.admitted h (else_case asker.listens asker.admitted asker.admitted h k)
known_needs asker Reply words h k = never asker.admitted h (else_case asker.listens asker.admitted asker.admitted h k)
known_needs asker HelpOfClient words h k = never asker.admitted h (else_case asker.listens asker.admitted asker.admitted h k)
known_needs asker Commands words h k = never asker.admitted h (else_case asker.listens asker.admitted asker.admitted h k)
known_needs asker Docs words h k = never asker.admitted h (else_case asker.listens asker.admitted asker.admitted h k)
known_needs asker Count words h k = never asker.admitted h (else_case asker.listens asker.admitted asker.admitted h k)
known_needs asker InfoOfCommands words h k = never asker.admitted h (else_case asker.listens asker.admitted asker.admitted h k)
known_needs asker ListOfCommands words h k = never asker.admitted h (else_case asker.listens asker.admitted asker.admitted h k)
known_needs asker HelpOfCommand words h k = never asker.admitted h (else_case asker.listens asker.admitted asker.admitted h k)
known_needs asker Role words h k = never asker.admitted h (else_case asker.listens asker.admitted asker.admitted h k)
known_needs asker Publish words h k = never asker.admitted h (else_case asker.listens asker.admitted asker.admitted h k)
known_needs asker Info words h k = never asker.admitted h (else_case asker.listens asker.admitted asker.admitted h k)
known_needs asker (Sentinel sub) words h k = never asker.admitted h (else_case asker.listens asker.admitted asker.admitted h k)

looked_needs : (asker : ClientInfo) (words : List (List ℕ)) (looked : Looked) → Keeps words looked → asker.admitted ≡ false → admitted_by asker looked ≡ true →
    Holds asker.password words
looked_needs asker words (refused refusal) keeps h k = never asker.admitted h k
looked_needs asker words (known verb args) keeps h k =
    let needs = known_needs asker verb args h k in
    rw (sym (keeps needs.0)) needs.1

maybe_needs : (asker : ClientInfo) (name : List ℕ) (words : List (List ℕ)) (test : Bool) (looked : Looked) → Keeps words looked → asker.admitted ≡ false
    → or_admitted asker (elim test as (λ _. Option Looked) [ true ↦ None | false ↦ Some looked ]) ≡ true → Holds asker.password (name ∷ words)
maybe_needs asker name words true looked keeps h k = never asker.admitted h k
maybe_needs asker name words false looked keeps h k = further asker.password name words (looked_needs asker words looked keeps h k)

in_needs : (asker : ClientInfo) (miscounted : Bool) (words : List (List ℕ)) → asker.admitted ≡ false → or_admitted asker (table.looked_up_in asker miscounted words) ≡ true
    → Holds asker.password words
in_needs asker miscounted [] h k = never asker.admitted h k
in_needs asker miscounted (name ∷ words) h k =
    maybe_needs asker name words (table.names_channels (name ∷ words) || table.is_barred asker name) (table.looked_up miscounted name words) (looked_up_keeps miscounted name words) h k

over_needs : (asker : ClientInfo) (test : Bool) (miscounted : Bool) (words : List (List ℕ)) → asker.admitted ≡ false
    → or_admitted asker (elim test as (λ _. Option Looked) [ true ↦ table.looked_up_in asker miscounted words | false ↦ None ]) ≡ true → Holds asker.password words
over_needs asker true miscounted words h k = in_needs asker miscounted words h k
over_needs asker false miscounted words h k = never asker.admitted h k

-- a password is wanted, and is given or isn't
lacking : (wanted : Option (List ℕ)) (before after : Bool) → lacks_password wanted before ≡ true → lacks_password wanted after ≡ false → (before ≡ false) × (after ≡ true)
lacking None before after h k = absurd (true≢false (sym h))
lacking (Some password) true after h k = absurd (true≢false (sym h))
lacking (Some password) false true h k = (refl, refl)
lacking (Some password) false false h k = absurd (true≢false k)

pub admitted_by_the_password : (asker : ClientInfo) (value : Frame) → is_stranger asker ≡ true → is_stranger (asker_after asker value) ≡ false
    → list_any (is_password asker.password) (words_of value) ≡ true
admitted_by_the_password asker value h k =
    let given = lacking asker.password asker.admitted (or_admitted asker (left_over asker value)) h k in
    over_needs asker (table.is_refused (redis_command_of value)) (table.is_miscounted (redis_command_of value)) (words_of value) given.0 given.1
