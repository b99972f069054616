-- All nodes of a group with everything that they ever sent, and the steps of the whole.
use Rattle.std.specs.Prelude.{◌≡◌, ◌≢◌, ℕ, ◌-◌, ◌<◌, ◌⊎◌, ◌↔◌, Bool, true, false, Option, Some, None, IsSome, unwrap_or, List, [], ◌∷◌, ◌++◌, map, length, All, slice_get, slice_index_or, slice_set}
use Rattle.ballot_law.specs.declared.cards.Card.{Card}
use Rattle.ballot_law.specs.declared.cards.Kept.{Kept}
use Rattle.ballot_law.specs.declared.cards.Shown.{Shown}
use Rattle.ballot_law.specs.declared.commands.Command.TheVariants.{FlushConfig}
use Rattle.ballot_law.specs.declared.events.Event.{Event}
use Rattle.ballot_law.specs.declared.events.Event.TheVariants.{Command, Answered, HelloRead, Handed}
use Rattle.ballot_law.specs.declared.messages.Message.{Message}
use Rattle.ballot_law.specs.declared.messages.NodeName.{NodeName}
use Rattle.ballot_law.specs.declared.messages.NodeName.TheVariants.{SentinelAt, StoreAt, ClientAt}
use Rattle.ballot_law.specs.declared.messages.Output.{Output}
use Rattle.ballot_law.specs.declared.messages.Output.TheVariants.{Send, Tell}
use Rattle.ballot_law.specs.declared.records.Election.{Election}
use Rattle.ballot_law.specs.declared.records.Advertisement.{Advertisement}
use Rattle.ballot_law.specs.declared.records.Win.{Win}
use Rattle.ballot_law.specs.declared.replies.Hello.{Hello}
use Rattle.ballot_law.specs.declared.steps.KeptText.{KeptText}
use Rattle.ballot_law.specs.declared.steps.KeptText.TheVariants.{Old, New}
use Rattle.ballot_law.specs.declared.steps.Step.{Step}
use Rattle.ballot_law.specs.declared.steps.Step.TheVariants.{Take, Deliver, Store, StoreRefused, Release, Stop, Start, Answer}
use Rattle.ballot_law.specs.Rosters.{Roster}
use Rattle.ballot_law.specs.Hellos.{IsHello}
use Rattle.ballot_law.specs.Messages.{Vote, vote_shown, published, passed_on, advertised, sent, advertised_by, Delivers, IsFor, hello_handed}
use Rattle.ballot_law.specs.Ballots.{Parts, Ballot, Moved, restored, card_of, voted_of, candidate_of}

pub data State : Type 0 where
  Ready : State
  Pending : State
  Stored : State
  Halted : State
  Stopped : State

-- stored: what its file held at its start and after each store since.
-- must_store: whether the last take has something to store
pub record Sentinel : Type 0 where
  pub file : Kept
  pub state : State
  pub parts : Parts
  pub must_store : Bool
  pub held : List Output
  pub stored : List Kept

-- a data node or a client
pub record Other : Type 0 where
  pub state : State
  pub held : List Output

-- clients: by their numbers, with None where no client has the number.
-- messages: all that were ever released. votes: each cast from the moment at which the voter's file holds it
pub record World : Type 0 where
  pub sentinels : List Sentinel
  pub stores : List Other
  pub clients : List (Option Other)
  pub messages : List Message
  pub votes : List Vote
  pub elected : List Election
  pub said : List Advertisement

-- where no node is
abbrev pub no_sentinel : Sentinel
no_sentinel =
    record {
      file = record { current = 0; masters = [] };
      state = Stopped;
      parts = record { kept = record { current = 0; masters = [] }; masters = []; casts = []; wins = [] };
      must_store = false;
      held = [];
      stored = [];
    }

abbrev pub no_other : Other
no_other = record { state = Stopped; held = [] }

abbrev pub sentinel_at : World → ℕ → Sentinel
sentinel_at w i = slice_index_or w.sentinels i no_sentinel

abbrev pub with_sentinel : World → ℕ → Sentinel → World
with_sentinel w i s = record w { sentinels = slice_set w.sentinels i s }

-- Takes of a Sentinel

-- what no message brings; answers, hellos and what other nodes are handed come by delivery alone
abbrev pub IsFree : Event → Type 0
IsFree (Answered v m addr down leader e) = ⊥
IsFree (HelloRead text) = ⊥
IsFree (Handed message) = ⊥
IsFree _ = Unit {0}

-- FLUSHCONFIG, which has something to store even where nothing changed
abbrev pub IsFlush : Event → Type 0
IsFlush (Command sender FlushConfig) = Unit {0}
IsFlush _ = ⊥

-- what Sentinel i may hold at these parts: a message under its own name; each configuration that it advertises, and the
-- vote of an answer, are those of the parts; a hello that it publishes has a spelling; it passes no hello on
pub record IsRight (roster : Roster) (i : ℕ) (parts : Parts) (message : Message) : Type 0 where
  pub sender : message.sender ≡ SentinelAt i
  pub cards : All (λ shown. shown.card ≡ card_of parts.kept shown.master) (advertised roster message.body)
  pub votes : (v : Vote) → vote_shown message.sender message.body ≡ Some v → (v.epoch ≡ voted_of parts.kept v.master) × (candidate_of parts v.master ≡ Some v.candidate)
  pub hellos : (hello : Hello) → published message.body ≡ Some hello → IsHello hello
  pub no_hello_text : passed_on message.body ≡ None

abbrev pub IsRightOutput : Roster → ℕ → Parts → Output → Type 0
IsRightOutput roster i parts (Send message) = IsRight roster i parts message
IsRightOutput roster i parts (Tell note) = note.card ≡ card_of parts.kept note.master

-- what a take may choose
pub record Choice : Type 0 where
  pub ballots : List Ballot
  pub parts : Parts
  pub must_store : Bool
  pub held : List Output

-- the parts move by the steps chosen, and the outputs rest on the parts at the end of the take
pub record IsChoice (roster : Roster) (i : ℕ) (event : Event) (node : Sentinel) (choice : Choice) : Type 0 where
  pub moved : Moved roster i event choice.ballots (record node.parts { casts = []; wins = [] }) choice.parts
  pub must_store : (choice.must_store ≡ true) ↔ (IsFlush event ⊎ (choice.parts.kept ≢ node.parts.kept))
  pub held : All (IsRightOutput roster i choice.parts) choice.held

-- A Sentinel after a step

abbrev pub taken : Sentinel → Choice → Sentinel
taken node choice = record node { state = Pending; parts = choice.parts; must_store = choice.must_store; held = choice.held }

abbrev pub stored_now : Sentinel → Sentinel
stored_now node = record node { file = node.parts.kept; state = Stored; stored = node.stored ++ node.parts.kept ∷ [] }

abbrev pub released : Sentinel → Sentinel
released node = record node { state = Ready; held = [] }

-- halted or stopped, with the old text or with the new one
abbrev pub ended : Sentinel → State → Sentinel
ended node state = record node { state = state }

abbrev pub ended_new : Sentinel → State → Sentinel
ended_new node state = record node { file = node.parts.kept; state = state }

-- ready with what the file holds, and nothing else
abbrev pub started : Roster → Kept → Sentinel
started roster file =
    record { file = file; state = Ready; parts = restored roster file; must_store = false; held = []; stored = file ∷ [] }

-- The world after a step of Sentinel i

abbrev pub elected_by : ℕ → List Win → List Election
elected_by i wins = map (λ win. record { sentinel = i; master = win.master; epoch = win.epoch }) wins

abbrev pub said_by : ℕ → List Shown → List Advertisement
said_by i shown = map (λ s. record { sentinel = i; master = s.master; card = s.card }) shown

-- the file is the new text, so the casts of the take are votes
abbrev pub filed : World → ℕ → Sentinel → World
filed w i node = record (with_sentinel w i node) { votes = w.votes ++ node.parts.casts }

-- the wins of the take are elections
abbrev pub after_store : World → ℕ → Sentinel → World
after_store w i node = record (filed w i (stored_now node)) { elected = w.elected ++ elected_by i node.parts.wins }

-- with nothing to store no store can be refused
abbrev pub after_refused : World → ℕ → Sentinel → (must_store : Bool) → KeptText → World
after_refused w i node false left = after_store w i node
after_refused w i node true Old = with_sentinel w i (ended node Halted)
after_refused w i node true New = filed w i (ended_new node Halted)

-- what was held is sent, and what it advertises is said
abbrev pub after_release : Roster → World → ℕ → Sentinel → World
after_release roster w i node =
    record
    (with_sentinel w i (released node))
    { messages = w.messages ++ sent node.held; said = w.said ++ said_by i (advertised_by roster node.held) }

-- only a stop within a take can leave a new text
abbrev pub after_stop : World → ℕ → Sentinel → State → KeptText → World
after_stop w i node Pending New = filed w i (ended_new node Stopped)
after_stop w i node _ _ = with_sentinel w i (ended node Stopped)

-- the stores of a Sentinel since its start
abbrev pub stores_of : Sentinel → ℕ
stores_of node = length node.stored - 1

-- the card that the Sentinel had after so many of them
abbrev pub card_after : Sentinel → (m stores : ℕ) → Card
card_after node m k = card_of (slice_index_or node.stored k (record { current = 0; masters = [] })) m

abbrev pub after_answer : World → (i m k : ℕ) → World
after_answer w i m k =
    record w { said = w.said ++ (record { sentinel = i; master = m; card = card_after (sentinel_at w i) m k }) ∷ [] }

-- Other nodes

abbrev pub client_at : World → ℕ → Option Other
client_at w k = slice_index_or w.clients k None

abbrev pub other_at : World → NodeName → Other
other_at w (StoreAt k) = slice_index_or w.stores k no_other
other_at w (ClientAt k) = unwrap_or (client_at w k) no_other
other_at w _ = no_other

abbrev pub IsOther : World → NodeName → Type 0
IsOther w (StoreAt k) = k < length w.stores
IsOther w (ClientAt k) = IsSome (client_at w k)
IsOther w _ = ⊥

abbrev pub with_other : World → NodeName → Other → World
with_other w (StoreAt k) node = record w { stores = slice_set w.stores k node }
with_other w (ClientAt k) node = record w { clients = slice_set w.clients k (Some node) }
with_other w _ node = w

-- another node sends under its own name, publishes nothing, and passes on only the hello that it was handed in this take
pub record IsPassed (name : NodeName) (event : Event) (message : Message) : Type 0 where
  pub sender : message.sender ≡ name
  pub no_publish : published message.body ≡ None
  pub handed : (hello : Hello) → passed_on message.body ≡ Some hello → hello_handed event ≡ Some hello

abbrev pub IsPassable : NodeName → Event → Output → Type 0
IsPassable name event (Send message) = IsPassed name event message
IsPassable name event (Tell note) = Unit {0}

-- Where a step applies

abbrev pub IsSentinel : World → ℕ → State → Type 0
IsSentinel w i state = (i < length w.sentinels) × ((sentinel_at w i).state ≡ state)

-- the node is there, in this state
abbrev pub IsAt : World → NodeName → State → Type 0
IsAt w (SentinelAt i) state = IsSentinel w i state
IsAt w name state = IsOther w name × ((other_at w name).state ≡ state)

-- a step that doesn't apply changes nothing
abbrev pub OrNothing : (applies moves : Type 0) → World → World → Type 0
OrNothing applies moves w w2 = (applies × moves) ⊎ ((¬ applies) × (w2 ≡ w))

-- Steps

-- the node takes the event
abbrev pub Takes : Roster → NodeName → Event → World → World → Type 0
Takes roster (SentinelAt i) event w w2 =
    (choice : Choice) × IsChoice roster i event (sentinel_at w i) choice × (w2 ≡ with_sentinel w i (taken (sentinel_at w i) choice))
Takes roster name event w w2 =
    (held : List Output) × All (IsPassable name event) held × (w2 ≡ with_other w name (record { state = Pending; held = held }))

-- it stores what its last take changed
abbrev pub Stores : NodeName → World → World → Type 0
Stores (SentinelAt i) w w2 = w2 ≡ after_store w i (sentinel_at w i)
Stores name w w2 = w2 ≡ with_other w name (record (other_at w name) { state = Stored })

-- its store is refused; other nodes have nothing to store
abbrev pub IsRefused : NodeName → KeptText → World → World → Type 0
IsRefused (SentinelAt i) left w w2 = w2 ≡ after_refused w i (sentinel_at w i) (sentinel_at w i).must_store left
IsRefused name left w w2 = w2 ≡ with_other w name (record (other_at w name) { state = Stored })

-- it sends what it holds
abbrev pub Releases : Roster → NodeName → World → World → Type 0
Releases roster (SentinelAt i) w w2 = w2 ≡ after_release roster w i (sentinel_at w i)
Releases roster name w w2 =
    w2 ≡ record (with_other w name (record { state = Ready; held = [] })) { messages = w.messages ++ sent (other_at w name).held }

-- the node is there, in any state
abbrev pub IsNode : World → NodeName → Type 0
IsNode w (SentinelAt i) = i < length w.sentinels
IsNode w name = IsOther w name

-- it loses all but its file
abbrev pub Stops : NodeName → KeptText → World → World → Type 0
Stops (SentinelAt i) left w w2 = w2 ≡ after_stop w i (sentinel_at w i) (sentinel_at w i).state left
Stops name left w w2 = w2 ≡ with_other w name (record (other_at w name) { state = Stopped })

-- it begins anew
abbrev pub Starts : Roster → NodeName → World → World → Type 0
Starts roster (SentinelAt i) w w2 = w2 ≡ with_sentinel w i (started roster (sentinel_at w i).file)
Starts roster name w w2 = w2 ≡ with_other w name (record { state = Ready; held = [] })

-- a client gets the card that a running Sentinel had after so many stores
abbrev pub Answers : Roster → (i m k : ℕ) → World → World → Type 0
Answers roster i m k w w2 =
    OrNothing
    ((i < length w.sentinels) × (m < length roster.masters) × ((sentinel_at w i).state ≢ Stopped) × (k < length (sentinel_at w i).stored))
    (w2 ≡ after_answer w i m k)
    w
    w2

-- a question shows the card last stored; only Sentinels are asked
abbrev pub AnswersNow : Roster → NodeName → ℕ → World → World → Type 0
AnswersNow roster (SentinelAt i) m w w2 = Answers roster i m (stores_of (sentinel_at w i)) w w2
AnswersNow roster name m w w2 = w2 ≡ w

-- a delivery is its target's take of what the message becomes; with no message of that number nothing changes
abbrev pub IsDelivered : Roster → Option Message → World → World → Type 0
IsDelivered roster None w w2 = w2 ≡ w
IsDelivered roster (Some message) w w2 =
    OrNothing (IsAt w message.target Ready × IsFor message.target message.body) ((event : Event) × Delivers message event × Takes roster message.target event w w2) w w2

-- the step may lead from the first world to the second
abbrev pub Steps : Roster → Step → World → World → Type 0
Steps roster (Take node input) w w2 =
    OrNothing (IsAt w node Ready × IsFree input.event) (Takes roster node input.event w w2) w w2
Steps roster (Deliver k now) w w2 = IsDelivered roster (slice_get w.messages k) w w2
Steps roster (Store node) w w2 = OrNothing (IsAt w node Pending) (Stores node w w2) w w2
Steps roster (StoreRefused node left) w w2 = OrNothing (IsAt w node Pending) (IsRefused node left w w2) w w2
Steps roster (Release node) w w2 = OrNothing (IsAt w node Stored) (Releases roster node w w2) w w2
Steps roster (Stop node left) w w2 = OrNothing (IsNode w node) (Stops node left w w2) w w2
Steps roster (Start node now) w w2 = OrNothing (IsAt w node Stopped) (Starts roster node w w2) w w2
Steps roster (Answer node m) w w2 = AnswersNow roster node m w w2

-- a step, or a client that gets an older answer of a running Sentinel: the card after its first so many stores
pub data Move : Type 0 where
  StepOf : (step : Step) → Move
  LateAnswer : (sentinel master stores : ℕ) → Move

-- the move may lead from the first world to the second
abbrev pub Moves : Roster → Move → World → World → Type 0
Moves roster (StepOf step) w w2 = Steps roster step w w2
Moves roster (LateAnswer i m k) w w2 = Answers roster i m k w w2

-- a run: the moves, in their order, lead from the first world to the last
abbrev pub Joined : Roster → List Move → World → World → Type 0
Joined roster [] w last = w ≡ last
Joined roster (move ∷ moves) w last = (w2 : World) × Moves roster move w w2 × Joined roster moves w2 last

-- a run of steps
abbrev pub Run : Roster → List Step → World → World → Type 0
Run roster steps w last = Joined roster (map StepOf steps) w last

-- a run at each of whose moves P holds of the worlds before and after it
abbrev pub JoinedBy : (World → World → Type 0) → Roster → List Move → World → World → Type 0
JoinedBy P roster [] w last = w ≡ last
JoinedBy P roster (move ∷ moves) w last = (w2 : World) × Moves roster move w w2 × P w w2 × JoinedBy P roster moves w2 last
