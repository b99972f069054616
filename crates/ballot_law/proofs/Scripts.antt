-- What a written run is made of: the worlds after its steps, and why a Sentinel may choose what it chooses.
use Rattle.std.proofs.Common.{◌≡◌, ℕ, Bool, Some, None, List, [], ◌∷◌, ◌++◌, refl, sym, ◌∙◌, zero, suc, ◌<◌, arith}
use Rattle.std.specs.Prelude.{All}
use Rattle.std.proofs.lemmas.List.Elements.{All-nil, All-cons}
use Rattle.ballot_law.specs.declared.cards.Shown.{Shown}
use Rattle.ballot_law.specs.declared.events.Event.{Event}
use Rattle.ballot_law.specs.declared.messages.Body.{Body}
use Rattle.ballot_law.specs.declared.messages.Message.{Message}
use Rattle.ballot_law.specs.declared.messages.NodeName.{NodeName}
use Rattle.ballot_law.specs.declared.messages.NodeName.TheVariants.{SentinelAt}
use Rattle.ballot_law.specs.declared.messages.Output.{Output}
use Rattle.ballot_law.specs.declared.messages.Output.TheVariants.{Send}
use Rattle.ballot_law.specs.declared.replies.PingReply.TheVariants.{Pong}
use Rattle.ballot_law.specs.Rosters.{Roster}
use Rattle.ballot_law.specs.Messages.{vote_shown, published, passed_on, advertised, sent, event_at, Delivers}
use Rattle.ballot_law.specs.Ballots.{Parts, Ballot, after, card_of}
use Rattle.ballot_law.specs.Worlds.{Ready, Pending, Stored, World, Choice, sentinel_at, with_sentinel, IsRight, IsRightOutput, taken, started, after_store, after_release, other_at, with_other}

-- what holds of the one Sentinel, or of the one master, that there is
pub only_first : (P : ℕ → Type 0) → P 0 → (i : ℕ) → i < 1 → P i
only_first P p zero l = p
only_first P p (suc i) l = absurd (omega arith)

-- Worlds

-- the parts after ballot steps of Sentinel i
abbrev pub all_after : ℕ → List Ballot → Parts → Parts
all_after i [] parts = parts
all_after i (ballot ∷ ballots) parts = all_after i ballots (after i parts ballot)

-- Sentinel i makes these ballot steps and holds these outputs
abbrev pub choose : World → ℕ → List Ballot → (must_store : Bool) → List Output → Choice
choose w i ballots must_store held =
    record {
      ballots = ballots;
      parts = all_after i ballots (record (sentinel_at w i).parts { casts = []; wins = [] });
      must_store = must_store;
      held = held;
    }

abbrev pub take_as : World → ℕ → Choice → World
take_as w i choice = with_sentinel w i (taken (sentinel_at w i) choice)

abbrev pub store_as : World → ℕ → World
store_as w i = after_store w i (sentinel_at w i)

abbrev pub release_as : Roster → World → ℕ → World
release_as roster w i = after_release roster w i (sentinel_at w i)

abbrev pub start_as : Roster → World → ℕ → World
start_as roster w i = with_sentinel w i (started roster (sentinel_at w i).file)

abbrev pub other_takes : World → NodeName → List Output → World
other_takes w name held = with_other w name (record { state = Pending; held = held })

abbrev pub other_stores : World → NodeName → World
other_stores w name = with_other w name (record (other_at w name) { state = Stored })

abbrev pub other_releases : World → NodeName → World
other_releases w name =
    record (with_other w name (record { state = Ready; held = [] })) { messages = w.messages ++ sent (other_at w name).held }

-- another node takes an input, stores nothing, and sends
abbrev pub other_speaks : World → NodeName → List Output → World
other_speaks w name held = other_releases (other_stores (other_takes w name held) name) name

-- Messages

abbrev pub message : (sender target : NodeName) → Body → Message
message sender target body = record { sender = sender; target = target; body = body }

-- what the message becomes
abbrev pub event_from : Message → Event
event_from message = event_at message.target Pong [] message

pub becomes : (message : Message) → Delivers message (event_from message)
becomes message = record { reply = Pong; info = []; is_event = refl }

-- What a Sentinel may hold

abbrev pub IsCard : Parts → Shown → Type 0
IsCard parts shown = shown.card ≡ card_of parts.kept shown.master

pub held_none : (roster : Roster) (i : ℕ) (parts : Parts) → All (IsRightOutput roster i parts) []
held_none roster i parts = All-nil (IsRightOutput roster i parts)

pub held_one : (roster : Roster) (i : ℕ) (parts : Parts) (message : Message) → IsRight roster i parts message
    → All (IsRightOutput roster i parts) (Send message ∷ [])
held_one roster i parts message right =
    All-cons (IsRightOutput roster i parts) (Send message) [] right (All-nil (IsRightOutput roster i parts))

-- an answer that shows these configurations, and neither a vote nor a hello
pub right_cards : (roster : Roster) (i : ℕ) (parts : Parts) (message : Message)
    → message.sender ≡ SentinelAt i
    → All (IsCard parts) (advertised roster message.body)
    → vote_shown message.sender message.body ≡ None
    → published message.body ≡ None
    → passed_on message.body ≡ None
    → IsRight roster i parts message
right_cards roster i parts message sender cards votes hellos text =
    record {
      sender = sender;
      cards = cards;
      votes = λ v e. let never : None ≡ Some v = sym votes ∙ e in absurd (cc);
      hellos = λ it e. let never : None ≡ Some it = sym hellos ∙ e in absurd (cc);
      no_hello_text = text;
    }
