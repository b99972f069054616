-- What Pub/Sub makes of the commands of a Sentinel's rules.
use Rattle.std.proofs.Common.{◌≡◌, ◌≢◌, ◌⊎◌, inl, inr, ℕ, List, [], ◌∷◌, Bool, true, false, Option, None, Some, Result, Ok, Err, refl, sym, ap, ◌∙◌}
use Rattle.std.specs.Prelude.{bytes_eq, codes, if◌then◌else◌}
use Rattle.std.proofs.lemmas.Slice.Eq.{bytes_eq-Decides}
use Rattle.ballot_law.specs.declared.commands.Command.{Command}
use Rattle.ballot_law.specs.declared.commands.Command.TheVariants.{Ping, IsMasterDownByAddr, GetMasterAddrByName, Masters, Master, Replicas, Sentinels, MyId, CkQuorum, Failover, FlushConfig, Subscribe}
use Rattle.ballot_law.specs.Results.{◌>>=◌, wanted}
use Rattle.ballot_law.specs.Words.{lower, canonical_within, canonical_address}
use Rattle.ballot_law.specs.declared.cards.TheConstants.{MAX_EPOCH}
use Rattle.resp2.specs.declared.command.CommandFault.{CommandFault}
use Rattle.resp2.specs.declared.command.CommandFault.TheVariants.{NotACommand, UnknownCommand, BadAddress, BadEpoch, BadRunId, UnknownChannel}
use Rattle.resp2.specs.Commands as commands
use Rattle.resp2.specs.Commands.{Entry, are_bulk, words, alone, about_master, master_of, candidate, is_master_down_by_addr, called_in, subcommands, sentinel_command, subscribe, channel, command_of_words, redis_command_of_words, redis_command_of}
use Rattle.resp2.proofs.Switches.{IsSwitch, switch_or_not}
use Rattle.resp2.specs.Framing.Frame.{Frame, FrameList, simple, fault, int, bulk, null_bulk, items, null_items}
use Rattle.pubsub.specs.declared.fault.ChannelFault.{ChannelFault}
use Rattle.pubsub.specs.declared.kind.Kind.{Kind}
use Rattle.pubsub.specs.declared.kind.Kind.TheVariants.{Channels, Patterns}
use Rattle.pubsub.specs.declared.verb.Verb.{Verb}
use Rattle.pubsub.specs.declared.verb.Verb.TheVariants.{Adds, Removes, Pings}
use Rattle.pubsub.specs.Listening.{Listening, refusal, is_listening}
use Rattle.pubsub.specs.Answering.{Answer, other, verb_of, names_of, subscribed, adds, pings, where_listening, is_own, own, known, answer_words, answer, IsSaid}

-- ---- no subcommand of SENTINEL is SUBSCRIBE

abbrev Words : Type 0
Words = List (List ℕ)

abbrev Reading : Type 0
Reading = Words → Result Command CommandFault

abbrev NeverSubscribes : Reading → Type 0
NeverSubscribes f = (args : Words) (command : Command) → f args ≡ Ok command → command ≢ Subscribe

alone_never : (c : Command) → c ≢ Subscribe → NeverSubscribes (alone c)
alone_never c not [] command h is = not (let e : c ≡ command = cc in e ∙ is)
alone_never c not (a ∷ more) command h is = absurd (let no : ⊥ = cc in no)

about_never : (f : Option (List ℕ) → Command) → ((named : Option (List ℕ)) → f named ≢ Subscribe) → NeverSubscribes (about_master f)
about_never f not args command h = at (master_of args) h where
  at : (r : Result (Option (List ℕ)) CommandFault)
      → elim r as (λ _. Result Command CommandFault) [ Ok named ↦ Ok (f named) | Err refused ↦ Err refused ] ≡ Ok command → command ≢ Subscribe
  at (Ok named) e is = not named (let same : f named ≡ command = cc in same ∙ is)
  at (Err refused) e is = absurd (let no : ⊥ = cc in no)

bind_ok : {A B E : Type 0} (r : Result A E) (f : A → Result B E) (b : B) → (r >>= f) ≡ Ok b → (x : A) × (f x ≡ Ok b)
bind_ok (Ok x) f b h = (x, h)
bind_ok (Err e) f b h = absurd (let no : ⊥ = cc in no)

ask_never : NeverSubscribes is_master_down_by_addr
ask_never [] command h is = absurd (let no : ⊥ = cc in no)
ask_never (a ∷ []) command h is = absurd (let no : ⊥ = cc in no)
ask_never (a ∷ b ∷ []) command h is = absurd (let no : ⊥ = cc in no)
ask_never (a ∷ b ∷ c ∷ []) command h is = absurd (let no : ⊥ = cc in no)
ask_never (ip ∷ port ∷ epoch ∷ id ∷ []) command h is =
    let first = bind_ok (wanted BadAddress (canonical_address ip port)) _ command h in
    let second = bind_ok (wanted BadEpoch (canonical_within 0 MAX_EPOCH epoch)) _ command first.1 in
    let third = bind_ok (wanted BadRunId (candidate id)) _ command second.1 in
    let same : Ok (IsMasterDownByAddr first.0 second.0 third.0) ≡ Ok command = third.1 in
    absurd (let no : ⊥ = cc in no)
ask_never (a ∷ b ∷ c ∷ d ∷ e ∷ more) command h is = absurd (let no : ⊥ = cc in no)

abbrev AllNever : List Entry → Type 0
AllNever [] = Unit {0}
AllNever (entry ∷ entries) = NeverSubscribes entry.1 × AllNever entries

called_never : (entries : List Entry) → AllNever entries → (name : List ℕ) → NeverSubscribes (called_in entries name)
called_never [] all name args command h = absurd (let no : ⊥ = cc in no)
called_never (entry ∷ entries) all name args command h = at (commands.is_called entry.0 name) (called_never entries all.1 name args command) h where
  at : (b : Bool) → (called_in entries name args ≡ Ok command → command ≢ Subscribe) → (if b then entry.1 args else called_in entries name args) ≡ Ok command
      → command ≢ Subscribe
  at true later e = all.0 args command e
  at false later e = later e

all_never : AllNever subcommands
all_never = (
  ask_never,
  (
    about_never GetMasterAddrByName (λ n e. let no : ⊥ = cc in no),
    (
      alone_never Masters (λ e. let no : ⊥ = cc in no),
      (
        about_never Master (λ n e. let no : ⊥ = cc in no),
        (
          about_never Replicas (λ n e. let no : ⊥ = cc in no),
          (
            about_never Replicas (λ n e. let no : ⊥ = cc in no),
            (
              about_never Sentinels (λ n e. let no : ⊥ = cc in no),
              (
                alone_never MyId (λ e. let no : ⊥ = cc in no),
                (about_never CkQuorum (λ n e. let no : ⊥ = cc in no), (alone_never FlushConfig (λ e. let no : ⊥ = cc in no), tt)),
              ),
            ),
          ),
        ),
      ),
    ),
  ),
)

sentinel_never : NeverSubscribes sentinel_command
sentinel_never [] command h is = absurd (let no : ⊥ = cc in no)
sentinel_never (name ∷ args) command h is = called_never subcommands all_never name args command h is

-- ---- the commands by their names

abbrev Case : List ℕ → Words → Command → Type 0
Case name args command =
    ((lower name ≡ codes "ping") × (args ≡ []) × (command ≡ Ping))
    ⊎ (((lower name ≡ codes "sentinel") × (command ≢ Subscribe)) ⊎ ((lower name ≡ codes "subscribe") × (command ≡ Subscribe)))

alone_same : (c : Command) (args : Words) (command : Command) → alone c args ≡ Ok command → command ≡ c
alone_same c [] command h = cc
alone_same c (a ∷ more) command h = absurd (let no : ⊥ = cc in no)

alone_empty : (c : Command) (args : Words) (command : Command) → alone c args ≡ Ok command → args ≡ []
alone_empty c [] command h = refl
alone_empty c (a ∷ more) command h = absurd (let no : ⊥ = cc in no)

pub subscribes : (args : Words) (command : Command) → subscribe args ≡ Ok command → command ≡ Subscribe
subscribes [] command h = absurd (let no : ⊥ = cc in no)
subscribes (word ∷ []) command h = at (bytes_eq word channel) h where
  at : (b : Bool) → (if b then Ok Subscribe else Err UnknownChannel) ≡ Ok command → command ≡ Subscribe
  at true e = cc
  at false e = absurd (let no : ⊥ = cc in no)
subscribes (word ∷ other_word ∷ more) command h = absurd (let no : ⊥ = cc in no)

case_at : (p s u : Bool) (name : List ℕ) (args : Words) (command : Command) → bytes_eq (lower name) (codes "ping") ≡ p → bytes_eq (lower name) (codes "sentinel") ≡ s
    → bytes_eq (lower name) (codes "subscribe") ≡ u
    → (if p then alone Ping args else (if s then sentinel_command args else (if u then subscribe args else Err UnknownCommand))) ≡ Ok command
    → Case name args command
case_at true s u name args command is_ping is_sentinel is_subscribe h =
    inl ((bytes_eq-Decides (lower name) (codes "ping")).0 is_ping, alone_empty Ping args command h, alone_same Ping args command h)
case_at false true u name args command is_ping is_sentinel is_subscribe h =
    inr (inl ((bytes_eq-Decides (lower name) (codes "sentinel")).0 is_sentinel, sentinel_never args command h))
case_at false false true name args command is_ping is_sentinel is_subscribe h =
    inr (inr ((bytes_eq-Decides (lower name) (codes "subscribe")).0 is_subscribe, subscribes args command h))
case_at false false false name args command is_ping is_sentinel is_subscribe h = absurd (let no : ⊥ = cc in no)

plain_case : (name : List ℕ) (args : Words) (command : Command) → command_of_words (name ∷ args) ≡ Ok command → Case name args command
plain_case name args command h =
    case_at (bytes_eq (lower name) (codes "ping")) (bytes_eq (lower name) (codes "sentinel")) (bytes_eq (lower name) (codes "subscribe")) name args command refl refl refl h

case_of : (name : List ℕ) (args : Words) (command : Command) → redis_command_of_words (name ∷ args) ≡ Ok command → Case name args command
case_of name args command h = at (switch_or_not name args)
  where
    at : IsSwitch name args ⊎ (redis_command_of_words (name ∷ args) ≡ command_of_words (name ∷ args)) → Case name args command
    at (inl it) = inr (inl (it.named, about_never Failover (λ n e. let no : ⊥ = cc in no) it.args command (sym it.judged ∙ h)))
    at (inr same) = plain_case name args command (sym same ∙ h)

-- the command of Pub/Sub by its name in small letters
abbrev verb_by : List ℕ → Option Verb
verb_by name =
    elim (bytes_eq name (lower (codes "subscribe"))) as (λ _. Option Verb) [
      | true ↦ Some (Adds Channels)
      | false ↦ elim (bytes_eq name (lower (codes "unsubscribe"))) as (λ _. Option Verb) [
        | true ↦ Some (Removes Channels)
        | false ↦ elim (bytes_eq name (lower (codes "psubscribe"))) as (λ _. Option Verb) [
          | true ↦ Some (Adds Patterns)
          | false ↦ elim (bytes_eq name (lower (codes "punsubscribe"))) as (λ _. Option Verb) [
            | true ↦ Some (Removes Patterns)
            | false ↦ elim (bytes_eq name (lower (codes "ping"))) as (λ _. Option Verb) [ true ↦ Some Pings | false ↦ None ]
          ]
        ]
      ]
    ]

verb_named : (name small : List ℕ) → lower name ≡ small → verb_of name ≡ verb_by small
verb_named name small is = ap verb_by is

-- ---- a value that is a command

record IsWords (fs : FrameList) (command : Command) : Type 0 where
  name : List ℕ
  args : Words
  bulk_words : are_bulk fs ≡ true
  are : words fs ≡ name ∷ args
  case : Case name args command

words_at : (ws : Words) (command : Command) → redis_command_of_words ws ≡ Ok command → (name : List ℕ) × (args : Words) × (ws ≡ name ∷ args) × Case name args command
words_at [] command h = absurd (let no : ⊥ = cc in no)
words_at (name ∷ args) command h = (name, args, refl, case_of name args command h)

bulk_at : (b : Bool) (ws : Words) (command : Command) → (if b then redis_command_of_words ws else Err NotACommand) ≡ Ok command
    → (b ≡ true) × (redis_command_of_words ws ≡ Ok command)
bulk_at true ws command h = (refl, h)
bulk_at false ws command h = absurd (let no : ⊥ = cc in no)

words_are : (fs : FrameList) (command : Command) → redis_command_of (items fs) ≡ Ok command → IsWords fs command
words_are fs command h =
    let bulks = bulk_at (are_bulk fs) (words fs) command h in
    let it = words_at (words fs) command bulks.1 in
    record { name = it.0; args = it.1; bulk_words = bulks.0; are = it.2; case = it.3 }

answer_is : (fs : FrameList) (command : Command) (l : Listening) (w : IsWords fs command) → redis_command_of (items fs) ≡ Ok command
    → answer (items fs) l ≡ known (verb_of w.name) w.args (own true (w.name ∷ w.args) l) l
answer_is fs command l w h =
    ap (λ (b : Bool). elim b as (λ _. Answer) [ true ↦ answer_words (is_own (redis_command_of (items fs))) (words fs) l | false ↦ other ]) w.bulk_words
    ∙ ap (λ (ws : Words). answer_words (is_own (redis_command_of (items fs))) ws l) w.are
    ∙ ap (λ (r : Result Command CommandFault). known (verb_of w.name) w.args (own (is_own r) (w.name ∷ w.args) l) l) h

subscribed_said : (kind : Kind) (more : Words) (l : Listening) (refused : Option ChannelFault) → IsSaid (subscribed kind more l refused)
subscribed_said kind more l None = (_, _, refl)
subscribed_said kind more l (Some f) = (_, _, refl)

adds_said : (kind : Kind) (more : Words) (l : Listening) → IsSaid (adds kind more l)
adds_said kind [] l = (_, _, refl)
adds_said kind (name ∷ more) l = subscribed_said kind (name ∷ more) l (refusal kind (names_of kind l) (name ∷ more))

said_as : (a b : Answer) → a ≡ b → IsSaid b → IsSaid a
said_as a b e s = (s.0, s.1, e ∙ s.2)

-- where the verb is this one
known_as : (name : List ℕ) (args : Words) (verb : Option Verb) (o : Answer) (l : Listening) → verb_of name ≡ verb → known (verb_of name) args o l ≡ known verb args o l
known_as name args verb o l e = ap (λ (v : Option Verb). known v args o l) e

said_where : (l : Listening) (a : Answer) → is_listening l ≡ true → IsSaid a → IsSaid (where_listening l a)
said_where l a h s = said_as (where_listening l a) a (ap (λ (b : Bool). elim b as (λ _. Answer) [ true ↦ a | false ↦ other ]) h) s

other_where : (l : Listening) (a : Answer) → is_listening l ≡ false → where_listening l a ≡ other
other_where l a h = ap (λ (b : Bool). elim b as (λ _. Answer) [ true ↦ a | false ↦ other ]) h

subscribe_at : (name : List ℕ) (args : Words) (o : Answer) (l : Listening) → lower name ≡ codes "subscribe" → IsSaid (known (verb_of name) args o l)
subscribe_at name args o l e =
    said_as (known (verb_of name) args o l) (adds Channels args l) (known_as name args (Some (Adds Channels)) o l (verb_named name (codes "subscribe") e)) (adds_said Channels args l)

pings_said : (args : Words) (l : Listening) → args ≡ [] → IsSaid (pings args l)
pings_said args l e = said_as (pings args l) (pings [] l) (ap (λ (ws : Words). pings ws l) e) (_, _, refl)

said_at : (name : List ℕ) (args : Words) (command : Command) (l : Listening) → is_listening l ≡ true → Case name args command
    → IsSaid (known (verb_of name) args (own true (name ∷ args) l) l)
said_at name args command l h (inl c) =
    said_as _ (where_listening l (pings args l)) (known_as name args (Some Pings) (own true (name ∷ args) l) l (verb_named name (codes "ping") c.0))
    (said_where l (pings args l) h (pings_said args l c.1))
said_at name args command l h (inr (inl c)) =
    said_as _ (own true (name ∷ args) l) (known_as name args None (own true (name ∷ args) l) l (verb_named name (codes "sentinel") c.0)) (said_where l _ h (_, _, refl))
said_at name args command l h (inr (inr c)) = subscribe_at name args (own true (name ∷ args) l) l c.0

other_at : (name : List ℕ) (args : Words) (command : Command) (l : Listening) → is_listening l ≡ false → command ≢ Subscribe → Case name args command
    → known (verb_of name) args (own true (name ∷ args) l) l ≡ other
other_at name args command l h not (inl c) =
    known_as name args (Some Pings) (own true (name ∷ args) l) l (verb_named name (codes "ping") c.0) ∙ other_where l (pings args l) h
other_at name args command l h not (inr (inl c)) =
    known_as name args None (own true (name ∷ args) l) l (verb_named name (codes "sentinel") c.0) ∙ other_where l _ h
other_at name args command l h not (inr (inr c)) = absurd (not c.1)

said_subscribe : (name : List ℕ) (args : Words) (l : Listening) → Case name args Subscribe → IsSaid (known (verb_of name) args (own true (name ∷ args) l) l)
said_subscribe name args l (inl c) = absurd (let is : Subscribe ≡ Ping = c.2 in let no : ⊥ = cc in no)
said_subscribe name args l (inr (inl c)) = absurd (c.1 refl)
said_subscribe name args l (inr (inr c)) = subscribe_at name args (own true (name ∷ args) l) l c.0

-- ---- for any value

-- SUBSCRIBE is answered by Pub/Sub
pub subscribe_is_said : (value : Frame) (l : Listening) → redis_command_of value ≡ Ok Subscribe → IsSaid (answer value l)
subscribe_is_said (items fs) l h =
    let w = words_are fs Subscribe h in
    said_as (answer (items fs) l) _ (answer_is fs Subscribe l w h) (said_subscribe w.name w.args l w.case)
subscribe_is_said (simple t) l h = absurd (let no : ⊥ = cc in no)
subscribe_is_said (fault t) l h = absurd (let no : ⊥ = cc in no)
subscribe_is_said (int n) l h = absurd (let no : ⊥ = cc in no)
subscribe_is_said (bulk t) l h = absurd (let no : ⊥ = cc in no)
subscribe_is_said null_bulk l h = absurd (let no : ⊥ = cc in no)
subscribe_is_said null_items l h = absurd (let no : ⊥ = cc in no)

-- while the connection listens, so is every command
pub own_is_said : (value : Frame) (command : Command) (l : Listening) → is_listening l ≡ true → redis_command_of value ≡ Ok command → IsSaid (answer value l)
own_is_said (items fs) command l listens h =
    let w = words_are fs command h in
    said_as (answer (items fs) l) _ (answer_is fs command l w h) (said_at w.name w.args command l listens w.case)
own_is_said (simple t) command l listens h = absurd (let no : ⊥ = cc in no)
own_is_said (fault t) command l listens h = absurd (let no : ⊥ = cc in no)
own_is_said (int n) command l listens h = absurd (let no : ⊥ = cc in no)
own_is_said (bulk t) command l listens h = absurd (let no : ⊥ = cc in no)
own_is_said null_bulk command l listens h = absurd (let no : ⊥ = cc in no)
own_is_said null_items command l listens h = absurd (let no : ⊥ = cc in no)

-- while it doesn't, no other command is
pub own_is_other : (value : Frame) (command : Command) (l : Listening) → is_listening l ≡ false → command ≢ Subscribe → redis_command_of value ≡ Ok command → answer value l ≡ other
own_is_other (items fs) command l silent not h =
    let w = words_are fs command h in
    answer_is fs command l w h ∙ other_at w.name w.args command l silent not w.case
own_is_other (simple t) command l silent not h = absurd (let no : ⊥ = cc in no)
own_is_other (fault t) command l silent not h = absurd (let no : ⊥ = cc in no)
own_is_other (int n) command l silent not h = absurd (let no : ⊥ = cc in no)
own_is_other (bulk t) command l silent not h = absurd (let no : ⊥ = cc in no)
own_is_other null_bulk command l silent not h = absurd (let no : ⊥ = cc in no)
own_is_other null_items command l silent not h = absurd (let no : ⊥ = cc in no)
