-- Processes of a group of each of which it is known what it took by its connections, as the contracts of `watch` say it.
use Rattle.std.specs.Prelude.{◌≡◌, ℕ, ◌<◌, ◌⊎◌, Bool, true, false, List, [], ◌∷◌, ◌++◌, length}
use Rattle.std.specs.List.{AllByRecursion}
use Rattle.ballot_law.specs.declared.events.Event.{Event}
use Rattle.ballot_law.specs.declared.messages.NodeName.{NodeName}
use Rattle.ballot_law.specs.declared.messages.NodeName.TheVariants.{SentinelAt}
use Rattle.ballot_law.specs.declared.steps.KeptText.{KeptText}
use Rattle.ballot_law.specs.Law.{IsStart}
use Rattle.ballot_law.specs.Rosters.{Roster, size, id_of, HasDistinctIds}
use Rattle.ballot_law.specs.Worlds.{World as Group, IsFree}
use Rattle.links.specs.declared.sessions.questions.Question.{Question}
use Rattle.links.specs.Sessions.Links.{Tells as LinkTells}
use Rattle.resp2.specs.Framing.Frame.{Frame}
use Rattle.resp2.specs.Long.LongValues.{LongParts}
use Rattle.sentinel_cell.specs.declared.entry.Entry.{Entry}
use Rattle.sentinel_cell.specs.Histories.{World}
use Rattle.sentinel_rules.specs.Ignored.{is_noticed}
use Rattle.process_laws.specs.Actions.{Action, Took, IsPublished, actions_after, all_sent, at_first}
use Rattle.process_laws.specs.Connected.{Life, history_of, AreLives, actions_of, IsCarried, AreConnected, AreSafe}
use Rattle.process_laws.specs.OwnActions.{place_of, own_of}

-- ---- one process

-- A connection as it stood at some moment: it is to this node, listens to hellos or doesn't, these questions were asked on it since it was opened, and these bytes came
pub record Connection : Type 0 where
  pub node : NodeName
  pub listens : Bool
  pub asked : List Question
  pub came : List ℕ

abbrev pub IsAmong : Connection → List Connection → Type 0
IsAmong c [] = ⊥
IsAmong c (other ∷ stood) = (other ≡ c) ⊎ IsAmong c stood

-- of one of these connections: the first values that came on it answer what was asked there, and tell the event among others
pub record IsToldThere (stood : List Connection) (event : Event) : Type 0 where
  pub on : Connection
  pub stands : IsAmong on stood
  pub values : List Frame
  pub rest : List ℕ
  pub parts : LongParts on.came values rest
  pub before : List Event
  pub after : List Event
  pub left : List Question
  pub tells : LinkTells on.node on.listens on.asked values (before ++ event ∷ after) left

-- each entry took what is free, or what it was told so
abbrev pub HearsSo : (stood : List Connection) → List Entry → Type 0
HearsSo stood history = AllByRecursion (λ (entry : Entry). IsFree entry.input.event ⊎ ∥ IsToldThere stood entry.input.event ∥₁) history

abbrev pub IsOneOf : Life → List Life → Type 0
IsOneOf life [] = ⊥
IsOneOf life (other ∷ lives) = (other ≡ life) ⊎ IsOneOf life lives

-- ---- the network

-- what came on that connection was carried to Sentinel i: it is to another Sentinel, whose port put it out
pub record IsCarriedThere (roster : Roster) (before : List Action) (i : ℕ) (on : Connection) : Type 0 where
  pub number : ℕ
  pub within : number < size roster
  pub node_is : on.node ≡ SentinelAt number
  pub speaks : on.listens ≡ false
  pub other : World
  pub carried : IsCarried roster before i (id_of roster number) other on.asked on.came

-- a connection of one of these processes tells the event, as it stood at some moment, and what had come on it by then was carried
pub record IsCarriedIn (roster : Roster) (before : List Action) (i : ℕ) (lives : List Life) (stood : Life → List Connection) (event : Event) : Type 0 where
  pub life : Life
  pub is_one : IsOneOf life lives
  pub told : IsToldThere (stood life) event
  pub carried : IsCarriedThere roster before i told.on

-- What is told to one of these processes, not free, and noticed: a hello that a Sentinel published before, or it was carried from another Sentinel. A connection tells its
-- events at all later moments too, when more has come on it: one moment of it is asked for
abbrev pub IsBrought : Roster → (stores : ℕ) → (before : List Action) → (i : ℕ) → (lives : List Life) → (stood : Life → List Connection) → Event → Type 0
IsBrought roster stores before i lives stood event = ∥ IsPublished stores (all_sent before) event ⊎ IsCarriedIn roster before i lives stood event ∥₁

-- ---- the processes of a group

-- each process by what is known of it, one order of all that they did, and what the network brings; `stood` is how the connections of each process stood
pub record AreWatched (roster : Roster) (start : Group) (lives : ℕ → List Life) (stood : ℕ → Life → List Connection) (order : List Action) : Type 0 where
  pub lived : (i : ℕ) → i < size roster → AreLives roster i (at_first start i).file (lives i)
  pub heard : (i : ℕ) → i < size roster → (life : Life) → IsOneOf life (lives i) → ∥ HearsSo (stood i life) (history_of life.deeds) ∥₁
  pub own : (i : ℕ) → i < size roster → own_of i order ≡ actions_of i (lives i)
  pub no_others : AllByRecursion (λ (d : Action). place_of d < size roster) order
  pub brought : (i : ℕ) (entry : Entry) (asker : NodeName) (left : KeptText) (before later : List Action) → order ≡ before ++ Took i entry asker left ∷ later
      → ¬ IsFree entry.input.event → is_noticed (actions_after (at_first start) before i).world.plan entry.input.event ≡ true
      → (life : Life) → IsOneOf life (lives i) → IsToldThere (stood i life) entry.input.event
      → IsBrought roster (length start.stores) before i (lives i) (stood i) entry.input.event

-- such processes are what the law of connected processes asks
abbrev pub WatchedAreConnected : Type 0
WatchedAreConnected =
    (roster : Roster) (start : Group) (lives : ℕ → List Life) (stood : ℕ → Life → List Connection) (order : List Action)
    → AreWatched roster start lives stood order
    → AreConnected roster start lives order

-- and so safe
abbrev pub WatchedAreSafe : Type 0
WatchedAreSafe =
    (roster : Roster) (start : Group) (lives : ℕ → List Life) (stood : ℕ → Life → List Connection) (order : List Action)
    → HasDistinctIds roster
    → IsStart roster start
    → AreWatched roster start lives stood order
    → AreSafe roster start order
