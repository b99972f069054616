-- Which values a connection's subscriptions answer, and how.
use Rattle.std.specs.Prelude.{◌≡◌, ℕ, Bool, true, false, List, [], ◌∷◌, ◌++◌, Option, Some, None, Result, Err, length, codes}
use Rattle.ballot_law.specs.declared.commands.Command.{Command}
use Rattle.ballot_law.specs.Words.{lower}
use Rattle.resp2.specs.declared.command.CommandFault.{CommandFault}
use Rattle.resp2.specs.declared.command.CommandFault.TheVariants.{NotACommand, UnknownCommand, WrongArguments}
use Rattle.resp2.specs.Commands as commands
use Rattle.resp2.specs.Commands.{are_bulk, words, redis_command_of}
use Rattle.resp2.specs.Framing.Frame.{Frame, FrameList, fault, bulk, items, no_frames, frame, frames_of, spellings}
use Rattle.pubsub.specs.declared.answers.Turn.{Turn}
use Rattle.pubsub.specs.declared.answers.Turn.TheVariants.{Other, Said}
use Rattle.pubsub.specs.declared.fault.ChannelFault.{ChannelFault}
use Rattle.pubsub.specs.declared.fault.ChannelFault.TheVariants.{NameTooLong, TooManyChannels, TooManyPatterns, NoMemory}
use Rattle.pubsub.specs.declared.kind.Kind.{Kind}
use Rattle.pubsub.specs.declared.kind.Kind.TheVariants.{Channels, Patterns}
use Rattle.pubsub.specs.declared.verb.Verb.{Verb}
use Rattle.pubsub.specs.declared.verb.Verb.TheVariants.{Adds, Removes, Pings}
use Rattle.pubsub.specs.Listening.{Listening, with_names, refusal, is_listening}
use Rattle.pubsub.specs.Confirming.{add_verb, added, removed_or_all, left}

-- what becomes of a value: it is none of a connection's subscriptions, or it is answered by these values and leaves the connection listening to this
pub data Answer : Type 0 where
  other : Answer
  said : FrameList → Listening → Answer

-- ---- commands

-- the word is this name, whatever the case of its letters
abbrev pub is_called : List ℕ → List ℕ → Bool
is_called name word = commands.is_called (lower name) word

-- the command with this name
abbrev pub verb_of : List ℕ → Option Verb
verb_of name =
    elim (is_called (codes "subscribe") name) [
      | true ↦ Some (Adds Channels)
      | false ↦ elim (is_called (codes "unsubscribe") name) [
        | true ↦ Some (Removes Channels)
        | false ↦ elim (is_called (codes "psubscribe") name) [
          | true ↦ Some (Adds Patterns)
          | false ↦ elim (is_called (codes "punsubscribe") name) [
            | true ↦ Some (Removes Patterns)
            | false ↦ elim (is_called (codes "ping") name) [ true ↦ Some Pings | false ↦ None ]
          ]
        ]
      ]
    ]

-- ---- refusals

abbrev pub wrong_arguments : (name : List ℕ) → Frame
wrong_arguments name = fault (codes "ERR wrong number of arguments for '" ++ (name ++ codes "' command"))

-- a connection that listens is told so at the subcommand of SENTINEL with this name
abbrev pub not_while_listening : (name : List ℕ) → Frame
not_while_listening name =
    fault (codes "ERR Can't execute 'sentinel|" ++ (name ++ codes "': only (P|S)SUBSCRIBE / (P|S)UNSUBSCRIBE / PING / QUIT / RESET are allowed in this context"))

-- the line of a refusal; there is none where memory was refused
abbrev pub fault_text : ChannelFault → List ℕ
fault_text NameTooLong = codes "ERR channel name too long: at most 256 bytes"
fault_text TooManyChannels = codes "ERR too many channels: at most 64"
fault_text TooManyPatterns = codes "ERR too many patterns: at most 64"
fault_text NoMemory = []

-- ---- what is answered

abbrev pub one : Frame → FrameList
one f = frame f no_frames

-- the names of this kind, and those of the other
abbrev pub names_of : Kind → Listening → List (List ℕ)
names_of Channels l = l.channels
names_of Patterns l = l.patterns

abbrev pub others_of : Kind → Listening → List (List ℕ)
others_of Channels l = l.patterns
others_of Patterns l = l.channels

abbrev pub with_these : Kind → List (List ℕ) → Listening → Listening
with_these Channels names l = record l { channels = names }
with_these Patterns names l = record l { patterns = names }

-- SUBSCRIBE or PSUBSCRIBE with these names, or why it is refused: then nothing changes
abbrev pub subscribed : Kind → (more : List (List ℕ)) → Listening → Option ChannelFault → Answer
subscribed kind more l None = said (added kind (length (others_of kind l)) (names_of kind l) more) (with_these kind (with_names (names_of kind l) more) l)
subscribed kind more l (Some refused) = said (one (fault (fault_text refused))) l

abbrev pub adds : Kind → (more : List (List ℕ)) → Listening → Answer
adds kind [] l = said (one (wrong_arguments (add_verb kind))) l
adds kind (name ∷ more) l = subscribed kind (name ∷ more) l (refusal kind (names_of kind l) (name ∷ more))

abbrev pub removes : Kind → (less : List (List ℕ)) → Listening → Answer
removes kind less l = said (removed_or_all kind (length (others_of kind l)) (names_of kind l) less) (with_these kind (left (names_of kind l) less) l)

abbrev pub pong : (text : List ℕ) → Frame
pong text = items (frames_of (bulk (codes "pong") ∷ bulk text ∷ []))

-- PING of a connection that listens
abbrev pub pings : (words : List (List ℕ)) → Listening → Answer
pings [] l = said (one (pong [])) l
pings (text ∷ []) l = said (one (pong text)) l
pings (text ∷ word ∷ words) l = other

abbrev pub where_listening : Listening → Answer → Answer
where_listening l answer = elim (is_listening l) [ true ↦ answer | false ↦ other ]

abbrev pub executed : Verb → (words : List (List ℕ)) → Listening → Answer
executed (Adds kind) words l = adds kind words l
executed (Removes kind) words l = removes kind words l
executed Pings words l = where_listening l (pings words l)

-- the rules of a Sentinel know the command
abbrev pub is_own : Result Command CommandFault → Bool
is_own (Err NotACommand) = false
is_own (Err UnknownCommand) = false
is_own (Err WrongArguments) = false
is_own asked = true

abbrev pub second : List (List ℕ) → List ℕ
second [] = []
second (name ∷ []) = []
second (name ∷ word ∷ words) = word

-- the other commands of a Sentinel's rules, which are subcommands of SENTINEL, are refused to a connection that listens
abbrev pub own : Bool → List (List ℕ) → Listening → Answer
own false words l = other
own true words l = where_listening l (said (one (not_while_listening (lower (second words)))) l)

abbrev pub known : Option Verb → (rest : List (List ℕ)) → (otherwise : Answer) → Listening → Answer
known None rest otherwise l = otherwise
known (Some verb) rest otherwise l = executed verb rest l

abbrev pub answer_words : Bool → List (List ℕ) → Listening → Answer
answer_words is_of_rules [] l = other
answer_words is_of_rules (name ∷ rest) l = known (verb_of name) rest (own is_of_rules (name ∷ rest) l) l

abbrev pub answer : Frame → Listening → Answer
answer (items fs) l = elim (are_bulk fs) [ true ↦ answer_words (is_own (redis_command_of (items fs))) (words fs) l | false ↦ other ]
answer value l = other

-- ---- an answer as it is handed out

abbrev pub turn_of : Answer → Turn
turn_of other = Other
turn_of (said answers l) = Said

abbrev pub text_of : Answer → List ℕ
text_of other = []
text_of (said answers l) = spellings answers

-- it is answered
abbrev pub IsSaid : Answer → Type 0
IsSaid given = (answers : FrameList) × (after : Listening) × (given ≡ said answers after)

-- to what the connection listens then
abbrev pub listening_after : Listening → Answer → Listening
listening_after before other = before
listening_after before (said answers after) = after
