-- No line of an answer or a message holds a CR or LF, so what is written of them is as many values.
use Rattle.std.proofs.Common.{◌≡◌, ℕ, List, [], ◌∷◌, ◌++◌, length, Bool, true, false, Option, None, Some, Result, Err, codes, refl, sym, ap, ◌∙◌, ◌⊎◌, inl, inr, subst, true≢false}
use Rattle.std.specs.Prelude.{if◌then◌else◌}
use Rattle.std.proofs.lemmas.Slice.Eq.{bytes_eq-Decides}
use Rattle.ballot_law.specs.declared.commands.Command.{Command}
use Rattle.ballot_law.specs.Words.{lower}
use Rattle.resp2.specs.declared.command.CommandFault.{CommandFault}
use Rattle.resp2.specs.declared.command.CommandFault.TheVariants.{NotACommand, UnknownCommand}
use Rattle.resp2.specs.Commands as commands
use Rattle.resp2.specs.Commands.{Entry, called_in, subcommands, sentinel_command, command_of_words, redis_command_of_words, are_bulk, words}
use Rattle.resp2.proofs.PlainLines.{checked, joined}
use Rattle.resp2.proofs.Switches.{IsSwitch, switch_or_not}
use Rattle.resp2.specs.Framing.Frame.{Frame, FrameList, frame, simple, fault, int, bulk, null_bulk, items, null_items, IsLine, HasLines, HaveLines}
use Rattle.pubsub.specs.declared.fault.ChannelFault.{ChannelFault}
use Rattle.pubsub.specs.declared.fault.ChannelFault.TheVariants.{NameTooLong, TooManyChannels, TooManyPatterns, NoMemory}
use Rattle.pubsub.specs.declared.kind.Kind.{Kind}
use Rattle.pubsub.specs.declared.kind.Kind.TheVariants.{Channels, Patterns}
use Rattle.pubsub.specs.declared.verb.Verb.{Verb}
use Rattle.pubsub.specs.declared.verb.Verb.TheVariants.{Adds, Removes, Pings}
use Rattle.pubsub.specs.Globs.{matches}
use Rattle.pubsub.specs.Listening.{Listening, holds, with_name, without_name, refusal, is_listening}
use Rattle.pubsub.specs.Confirming.{add_verb, added, removed, emptied, all_removed, removed_or_all}
use Rattle.pubsub.specs.Telling.{pattern_message, message, told, told_for}
use Rattle.pubsub.specs.Answering.{Answer, other, said, is_called, verb_of, wrong_arguments, not_while_listening, fault_text, one, names_of, others_of, subscribed, pings, executed, is_own, second, own, known, answer_words, answer}

-- ---- lines

abbrev allowed : List ℕ
allowed = codes "': only (P|S)SUBSCRIBE / (P|S)UNSUBSCRIBE / PING / QUIT / RESET are allowed in this context"

refused_line : (name : List ℕ) → IsLine name → HasLines (not_while_listening name)
refused_line name h =
    joined (codes "ERR Can't execute 'sentinel|") (name ++ allowed) (checked (codes "ERR Can't execute 'sentinel|") refl)
    (joined name allowed h (checked allowed refl))

wrong_line : (kind : Kind) → HasLines (wrong_arguments (add_verb kind))
wrong_line Channels = checked (codes "ERR wrong number of arguments for '" ++ (codes "subscribe" ++ codes "' command")) refl
wrong_line Patterns = checked (codes "ERR wrong number of arguments for '" ++ (codes "psubscribe" ++ codes "' command")) refl

fault_line : (refused : ChannelFault) → IsLine (fault_text refused)
fault_line NameTooLong = checked (fault_text NameTooLong) refl
fault_line TooManyChannels = checked (fault_text TooManyChannels) refl
fault_line TooManyPatterns = checked (fault_text TooManyPatterns) refl
fault_line NoMemory = tt

-- ---- the names of the subcommands of SENTINEL are lines

abbrev AreLines : List Entry → Type 0
AreLines [] = Unit {0}
AreLines (entry ∷ entries) = IsLine entry.0 × AreLines entries

subcommands_lines : AreLines subcommands
subcommands_lines = (
  checked (codes "is-master-down-by-addr") refl,
  (
    checked (codes "get-master-addr-by-name") refl,
    (
      checked (codes "masters") refl,
      (
        checked (codes "master") refl,
        (
          checked (codes "replicas") refl,
          (
            checked (codes "slaves") refl,
            (
              checked (codes "sentinels") refl,
              (
                checked (codes "myid") refl,
                (
                  checked (codes "ckquorum") refl,
                  (
                    checked (codes "flushconfig") refl,
                    tt,
                  ),
                ),
              ),
            ),
          ),
        ),
      ),
    ),
  ),
)

entry_line : (entry : Entry) (word : List ℕ) (found rest : Result Command CommandFault) (test : Bool) → commands.is_called entry.0 word ≡ test → IsLine entry.0
    → is_own (if test then found else rest) ≡ true → (is_own rest ≡ true → IsLine (lower word)) → IsLine (lower word)
entry_line entry word found rest true e h k more =
    let same : lower word ≡ entry.0 = (bytes_eq-Decides (lower word) entry.0).0 e in
    subst (λ (t : List ℕ). IsLine t) (sym same) h
entry_line entry word found rest false e h k more = more k

known_line : (entries : List Entry) (word : List ℕ) (args : List (List ℕ)) → AreLines entries → is_own (called_in entries word args) ≡ true → IsLine (lower word)
known_line [] word args h k = absurd (true≢false (sym k))
known_line (entry ∷ entries) word args h k =
    entry_line entry word (entry.1 args) (called_in entries word args) (commands.is_called entry.0 word) refl h.0 k
    (λ m. known_line entries word args h.1 m)

sub_line : (name : List ℕ) (rest : List (List ℕ)) → is_own (sentinel_command rest) ≡ true → IsLine (lower (second (name ∷ rest)))
sub_line name [] h = absurd (true≢false (sym h))
sub_line name (word ∷ args) h = known_line subcommands word args subcommands_lines h

-- a command of the rules that isn't PING or SUBSCRIBE is SENTINEL
second_line : (name : List ℕ) (rest : List (List ℕ)) (ping sentinel subscribe : Bool) (one two : Result Command CommandFault) → ping ≡ false → subscribe ≡ false
    → is_own (if ping then one else if sentinel then sentinel_command rest else if subscribe then two else Err UnknownCommand) ≡ true
    → IsLine (lower (second (name ∷ rest)))
second_line name rest true sentinel subscribe one two p s h = absurd (true≢false p)
second_line name rest false true subscribe one two p s h = sub_line name rest h
second_line name rest false false true one two p s h = absurd (true≢false s)
second_line name rest false false false one two p s h = absurd (true≢false (sym h))

no_verb : (subscribes unsubscribes psubscribes punsubscribes pings : Bool)
    → elim subscribes as (λ _. Option Verb) [
      | true ↦ Some (Adds Channels)
      | false ↦ elim unsubscribes as (λ _. Option Verb) [
        | true ↦ Some (Removes Channels)
        | false ↦ elim psubscribes as (λ _. Option Verb) [
          | true ↦ Some (Adds Patterns)
          | false ↦ elim punsubscribes as (λ _. Option Verb) [
            | true ↦ Some (Removes Patterns)
            | false ↦ elim pings as (λ _. Option Verb) [ true ↦ Some Pings | false ↦ None ]
          ]
        ]
      ]
    ] ≡ None
    → (subscribes ≡ false) × (pings ≡ false)
no_verb true b c d e h = absurd (cc)
no_verb false true c d e h = absurd (cc)
no_verb false false true d e h = absurd (cc)
no_verb false false false true e h = absurd (cc)
no_verb false false false false true h = absurd (cc)
no_verb false false false false false h = (refl, refl)

plain_name_line : (name : List ℕ) (rest : List (List ℕ)) → verb_of name ≡ None → is_own (command_of_words (name ∷ rest)) ≡ true
    → IsLine (lower (second (name ∷ rest)))
plain_name_line name rest e h =
    let tests = no_verb (is_called (codes "subscribe") name) (is_called (codes "unsubscribe") name) (is_called (codes "psubscribe") name)
    (is_called (codes "punsubscribe") name) (is_called (codes "ping") name) e in
    second_line name rest (commands.is_called (codes "ping") name) (commands.is_called (codes "sentinel") name) (commands.is_called (codes "subscribe") name) _ _
    tests.1 tests.0 h

-- nor is SENTINEL FAILOVER
own_name_line : (name : List ℕ) (rest : List (List ℕ)) → verb_of name ≡ None → is_own (redis_command_of_words (name ∷ rest)) ≡ true
    → IsLine (lower (second (name ∷ rest)))
own_name_line name rest e h = at (switch_or_not name rest)
  where
    at : IsSwitch name rest ⊎ (redis_command_of_words (name ∷ rest) ≡ command_of_words (name ∷ rest)) → IsLine (lower (second (name ∷ rest)))
    at (inl it) =
        subst (λ (t : List ℕ). IsLine t) (sym (ap (λ (ws : List (List ℕ)). lower (second (name ∷ ws))) it.rest_is ∙ it.wanted)) (checked (codes "failover") refl)
    at (inr same) = plain_name_line name rest e (sym (ap (λ (asked : Result Command CommandFault). is_own asked) same) ∙ h)

-- ---- answers

added_lines : (kind : Kind) (others : ℕ) (names more : List (List ℕ)) → HaveLines (added kind others names more)
added_lines kind others names [] = tt
added_lines kind others names (name ∷ more) = ((tt, (tt, (tt, tt))), added_lines kind others (with_name names name) more)

removed_lines : (kind : Kind) (others : ℕ) (names less : List (List ℕ)) → HaveLines (removed kind others names less)
removed_lines kind others names [] = tt
removed_lines kind others names (name ∷ less) = ((tt, (tt, (tt, tt))), removed_lines kind others (without_name names name) less)

emptied_lines : (kind : Kind) (others : ℕ) (names : List (List ℕ)) → HaveLines (emptied kind others names)
emptied_lines kind others [] = tt
emptied_lines kind others (name ∷ names) = ((tt, (tt, (tt, tt))), emptied_lines kind others names)

all_lines : (kind : Kind) (others : ℕ) (names : List (List ℕ)) → HaveLines (all_removed kind others names)
all_lines kind others [] = ((tt, (tt, (tt, tt))), tt)
all_lines kind others (name ∷ names) = emptied_lines kind others (name ∷ names)

either_lines : (kind : Kind) (others : ℕ) (names less : List (List ℕ)) → HaveLines (removed_or_all kind others names less)
either_lines kind others names [] = all_lines kind others names
either_lines kind others names (name ∷ less) = removed_lines kind others names (name ∷ less)

abbrev AreAnswerLines : Answer → Type 0
AreAnswerLines other = Unit {0}
AreAnswerLines (said answers after) = HaveLines answers

where_lines : (test : Bool) (a : Answer) → AreAnswerLines a → AreAnswerLines (elim test as (λ _. Answer) [ true ↦ a | false ↦ other ])
where_lines true a h = h
where_lines false a h = tt

subscribed_lines : (kind : Kind) (more : List (List ℕ)) (l : Listening) (refused : Option ChannelFault) → AreAnswerLines (subscribed kind more l refused)
subscribed_lines kind more l None = added_lines kind (length (others_of kind l)) (names_of kind l) more
subscribed_lines kind more l (Some refused) = (fault_line refused, tt)

pings_lines : (words : List (List ℕ)) (l : Listening) → AreAnswerLines (pings words l)
pings_lines [] l = ((tt, (tt, tt)), tt)
pings_lines (text ∷ []) l = ((tt, (tt, tt)), tt)
pings_lines (text ∷ word ∷ words) l = tt

executed_lines : (verb : Verb) (words : List (List ℕ)) (l : Listening) → AreAnswerLines (executed verb words l)
executed_lines (Adds kind) [] l = (wrong_line kind, tt)
executed_lines (Adds kind) (name ∷ more) l = subscribed_lines kind (name ∷ more) l (refusal kind (names_of kind l) (name ∷ more))
executed_lines (Removes kind) words l = either_lines kind (length (others_of kind l)) (names_of kind l) words
executed_lines Pings words l = where_lines (is_listening l) (pings words l) (pings_lines words l)

own_lines : (is_of_rules : Bool) (words : List (List ℕ)) (l : Listening) → (is_of_rules ≡ true → IsLine (lower (second words))) → AreAnswerLines (own is_of_rules words l)
own_lines false words l h = tt
own_lines true words l h =
    where_lines (is_listening l) (said (one (not_while_listening (lower (second words)))) l) (refused_line (lower (second words)) (h refl), tt)

known_lines : (name : List ℕ) (rest : List (List ℕ)) (l : Listening) (verb : Option Verb) → verb_of name ≡ verb
    → AreAnswerLines (known verb rest (own (is_own (redis_command_of_words (name ∷ rest))) (name ∷ rest) l) l)
known_lines name rest l None e = own_lines (is_own (redis_command_of_words (name ∷ rest))) (name ∷ rest) l (λ h. own_name_line name rest e h)
known_lines name rest l (Some verb) e = executed_lines verb rest l

words_lines : (words : List (List ℕ)) (l : Listening) → AreAnswerLines (answer_words (is_own (redis_command_of_words words)) words l)
words_lines [] l = tt
words_lines (name ∷ rest) l = known_lines name rest l (verb_of name) refl

items_lines : (test : Bool) (ws : List (List ℕ)) (l : Listening)
    → AreAnswerLines (elim test as (λ _. Answer) [ true ↦ answer_words (is_own (if test then redis_command_of_words ws else Err NotACommand)) ws l | false ↦ other ])
items_lines true ws l = words_lines ws l
items_lines false ws l = tt

answer_lines : (value : Frame) (l : Listening) → AreAnswerLines (answer value l)
answer_lines (simple text) l = tt
answer_lines (fault text) l = tt
answer_lines (int n) l = tt
answer_lines (bulk bytes) l = tt
answer_lines null_bulk l = tt
answer_lines null_items l = tt
answer_lines (items fs) l = items_lines (are_bulk fs) (words fs) l

pub said_has_lines : (value : Frame) (l after : Listening) (answers : FrameList) → answer value l ≡ said answers after → HaveLines answers
said_has_lines value l after answers is = subst (λ (a : Answer). AreAnswerLines a) is (answer_lines value l)

-- ---- messages

one_more : (test : Bool) (first : Frame) (rest : FrameList) → HasLines first → HaveLines rest
    → HaveLines (elim test as (λ _. FrameList) [ true ↦ frame first rest | false ↦ rest ])
one_more true first rest h k = (h, k)
one_more false first rest h k = k

told_for_lines : (patterns : List (List ℕ)) (channel text : List ℕ) → HaveLines (told_for patterns channel text)
told_for_lines [] channel text = tt
told_for_lines (pattern ∷ patterns) channel text =
    one_more (matches pattern channel) (pattern_message pattern channel text) (told_for patterns channel text) (tt, (tt, (tt, (tt, tt))))
    (told_for_lines patterns channel text)

pub told_has_lines : (l : Listening) (channel text : List ℕ) → HaveLines (told l channel text)
told_has_lines l channel text =
    one_more (holds l.channels channel) (message channel text) (told_for l.patterns channel text) (tt, (tt, (tt, tt))) (told_for_lines l.patterns channel text)
