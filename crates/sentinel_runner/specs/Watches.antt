-- Processes of a group that `watch` runs: what the contracts of its code say of each, and what is asked of the network and of the order of all.
use Rattle.std.specs.Prelude.{◌≡◌, ℕ, ◌<◌, ◌⊎◌, Bool, true, List, [], ◌∷◌, ◌++◌, length, Some}
use Rattle.std.specs.List.{AllByRecursion}
use Rattle.ballot_law.specs.declared.cards.Kept.{Kept}
use Rattle.ballot_law.specs.declared.addresses.RunId.{RunId}
use Rattle.ballot_law.specs.declared.events.Event.{Event}
use Rattle.ballot_law.specs.declared.messages.NodeName.{NodeName}
use Rattle.ballot_law.specs.declared.messages.NodeName.TheVariants.{SentinelAt}
use Rattle.ballot_law.specs.declared.steps.KeptText.{KeptText}
use Rattle.ballot_law.specs.Law.{IsStart}
use Rattle.ballot_law.specs.Rosters.{Roster, size, HasDistinctIds}
use Rattle.ballot_law.specs.Worlds.{World as Group, IsFree}
use Rattle.links.specs.declared.target.Target.{Target}
use Rattle.process_laws.specs.Actions.{Action, Took, IsPublished, actions_after, all_sent, at_first}
use Rattle.process_laws.specs.Connected.{Life, history_of, file_of, IsOfMasters, actions_of, IsCarried, AreConnected, AreSafe}
use Rattle.process_laws.specs.Differing.{DifferInNodes}
use Rattle.process_laws.specs.OwnActions.{place_of, own_of}
use Rattle.process_laws.specs.Watched.{IsOneOf}
use Rattle.sentinel_cell.specs.declared.entry.Entry.{Entry}
use Rattle.sentinel_cell.specs.Histories.{World, IsLegal}
use Rattle.sentinel_conf.specs.Facts.{IsSoundConf}
use Rattle.sentinel_conf.specs.Meaning.{ConfPlan}
use Rattle.sentinel_rules.specs.declared.profiles.Profile.{Profile}
use Rattle.sentinel_rules.specs.Ignored.{is_noticed}
use Rattle.sentinel_rules.specs.Plans.{roster_of}
use Rattle.sentinel_runner.specs.Opening.{IsOpenedAnew}
use Rattle.sentinel_runtime.specs.Hearing.{MayTakeAll}
use Rattle.sentinel_runtime.specs.Saying.{IsReleased}
use Rattle.tcp_transport.specs.Places.{IsOfRoster}
use Rattle.tcp_transport.specs.Sockets.{Gets, MayTell}
use Rattle.tcp_transport.specs.Told.{IsTold}

-- ---- the instance of `Which` and `Connects` of which all is known

-- Bytes tell the event that came on a connection which stood so, for what was asked there; it is to a node of this Sentinel's roster, and nothing went out on it but what
-- this Sentinel may say. This is `told`, `IsReleased start` is `said`, and `IsOfRoster (roster_of start.plan)` is `reaches`
pub record IsToldThere (start : World) (stood : Target → (put got : List ℕ) → Type 0) (event : Event) : Type 0 where
  pub target : Target
  pub reached : IsOfRoster (roster_of start.plan) target
  pub put : List ℕ
  pub got : List ℕ
  pub stands : stood target put got
  pub tells : IsTold (IsReleased start) target put got event

-- the connections that pass a test
abbrev pub Passes : (test : Target → (put got : List ℕ) → Bool) → Target → (put got : List ℕ) → Type 0
Passes test target put got = test target put got ≡ true

-- where each socket is among the connections that stood so, as it stands after a read, and these are to nodes of the roster, as `Connects` asks, that read tells what
-- `Socket` asks of it
abbrev pub SocketsTell : Type 0
SocketsTell =
    (start : World) (stood old new : Target → (put got : List ℕ) → Bool) (bytes : List ℕ)
    → Gets (Passes old) (Passes new) bytes
    → ((target : Target) (put got : List ℕ) → Passes new target put got → Passes stood target put got)
    → ((target : Target) (put got : List ℕ) → Passes stood target put got → ∥ IsOfRoster (roster_of start.plan) target ∥₁)
    → MayTell (IsReleased start) (IsToldThere start (Passes stood)) (Passes old) bytes

-- ---- one process

-- What its contracts say of a process whose connections stood so: `opens` is the clause `start` of `Watch::open`, `legal` and `heard` are what `run_over` leaves, by which
-- `Watch::run` runs. Beside that its conf, which was read, is of the group's roster but for data nodes, and keeps what the file held; and clients ask for masters of the roster
pub record IsWatch (roster : Roster) (i : ℕ) (file : Kept) (stood : Target → (put got : List ℕ) → Type 0) (life : Life) : Type 0 where
  pub conf : ConfPlan
  pub profile : Profile
  pub reboots : List ℕ
  pub opens : IsOpenedAnew conf profile reboots life.now life.opened
  pub legal : IsLegal life.opened (history_of life.deeds)
  pub heard : ∥ MayTakeAll (IsToldThere life.opened stood) (history_of life.deeds) ∥₁
  pub sound : IsSoundConf conf
  pub place : life.opened.plan.place ≡ i
  pub roster_is : DifferInNodes conf.roster roster
  pub kept : conf.kept ≡ file
  pub asked : AllByRecursion (IsOfMasters roster) life.deeds

-- one after the other, each of which begins by what the one before left in the file
abbrev pub AreWatches : Roster → (i : ℕ) → Kept → (stood : Life → Target → (put got : List ℕ) → Type 0) → List Life → Type 0
AreWatches roster i file stood [] = Unit {0}
AreWatches roster i file stood (life ∷ lives) = IsWatch roster i file (stood life) life × AreWatches roster i (file_of life) stood lives

-- ---- the network

-- what came on a connection to this node, for what was asked there, was carried to Sentinel i: the node is a Sentinel, and a port that named itself by its run id put it out
pub record IsCarriedFrom (roster : Roster) (before : List Action) (i : ℕ) (start : World) (event : Event) (target : Target) (put got : List ℕ)
    (tells : IsTold (IsReleased start) target put got event) : Type 0 where
  pub number : ℕ
  pub node : target.node ≡ SentinelAt number
  pub other : World
  pub carried : (id : RunId) → target.id ≡ Some id → IsCarried roster before i id other tells.asked got

-- a connection of one of these processes tells the event, as it stood at some moment, and what had come on it by then was carried
pub record IsCarriedIn (roster : Roster) (before : List Action) (i : ℕ) (lives : List Life) (stood : Life → Target → (put got : List ℕ) → Type 0) (event : Event) : Type 0 where
  pub life : Life
  pub is_one : IsOneOf life lives
  pub told : IsToldThere life.opened (stood life) event
  pub carried : IsCarriedFrom roster before i life.opened event told.target told.put told.got told.tells

-- What an event is that is told to one of these processes and not free, and that the Sentinel notices: a hello that a Sentinel published before, or it was carried from another
-- Sentinel. A connection tells its events at all later moments too, when more has come on it: one moment of it is asked for
abbrev pub IsBrought : Roster → (stores : ℕ) → (before : List Action) → (i : ℕ) → (lives : List Life) → (stood : Life → Target → (put got : List ℕ) → Type 0) → Event
    → Type 0
IsBrought roster stores before i lives stood event = ∥ IsPublished stores (all_sent before) event ⊎ IsCarriedIn roster before i lives stood event ∥₁

-- ---- the processes of a group

-- Each process by its contracts, one order of all that they did, and what the network brings
pub record AreWatched (roster : Roster) (start : Group) (lives : ℕ → List Life) (stood : ℕ → Life → Target → (put got : List ℕ) → Type 0) (order : List Action) : Type 0 where
  pub watches : (i : ℕ) → i < size roster → AreWatches roster i (at_first start i).file (stood i) (lives i)
  pub own : (i : ℕ) → i < size roster → own_of i order ≡ actions_of i (lives i)
  pub no_others : AllByRecursion (λ (d : Action). place_of d < size roster) order
  pub brought : (i : ℕ) (entry : Entry) (asker : NodeName) (left : KeptText) (before later : List Action) → order ≡ before ++ Took i entry asker left ∷ later
      → ¬ IsFree entry.input.event → is_noticed (actions_after (at_first start) before i).world.plan entry.input.event ≡ true
      → (life : Life) → IsOneOf life (lives i) → IsToldThere life.opened (stood i life) entry.input.event
      → IsBrought roster (length start.stores) before i (lives i) (stood i) entry.input.event

-- such processes are what the law of connected processes asks, and so safe
abbrev pub WatchesAreConnected : Type 0
WatchesAreConnected =
    (roster : Roster) (start : Group) (lives : ℕ → List Life) (stood : ℕ → Life → Target → (put got : List ℕ) → Bool) (order : List Action)
    → AreWatched roster start lives (λ i life. Passes (stood i life)) order
    → AreConnected roster start lives order

abbrev pub WatchesAreSafe : Type 0
WatchesAreSafe =
    (roster : Roster) (start : Group) (lives : ℕ → List Life) (stood : ℕ → Life → Target → (put got : List ℕ) → Bool) (order : List Action)
    → HasDistinctIds roster
    → IsStart roster start
    → AreWatched roster start lives (λ i life. Passes (stood i life)) order
    → AreSafe roster start order
