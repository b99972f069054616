-- What each process did by itself, in whatever order with the others, and what it heard.
use Rattle.std.specs.Prelude.{◌≡◌, ℕ, ◌<◌, eqb, true, cond, List, [], ◌∷◌, ◌++◌, length}
use Rattle.std.specs.List.{AllByRecursion}
use Rattle.ballot_law.specs.declared.messages.Message.{Message}
use Rattle.ballot_law.specs.Rosters.{Roster, size}
use Rattle.sentinel_cell.specs.Histories.{IsStep, after}
use Rattle.process_laws.specs.Actions.{Action, Opened, Took, Told, Process, IsOpened, IsHeard, file_after, action_after, sent_by, AreActions}

-- whose action it is
abbrev pub place_of : Action → ℕ
place_of (Opened i w now) = i
place_of (Took i e asker left) = i
place_of (Told i m) = i

-- the actions of one Sentinel's processes
abbrev pub own_of : (i : ℕ) → List Action → List Action
own_of i [] = []
own_of i (d ∷ ds) = cond (eqb (place_of d) i) (d ∷ own_of i ds) (own_of i ds)

abbrev pub own_after : Process → Action → Process
own_after p (Opened i w now) = record { runs = true; world = w; file = p.file }
own_after p (Took i e asker left) = record { runs = true; world = after p.world e; file = file_after e.outcome left p e }
own_after p (Told i m) = p

-- what is asked of an action but that what is heard was sent
abbrev pub IsOwnAction : Roster → Process → Action → Type 0
IsOwnAction roster p (Opened i w now) = IsOpened roster i p.file now w
IsOwnAction roster p (Took i e asker left) = (p.runs ≡ true) × IsStep p.world e
IsOwnAction roster p (Told i m) = (p.runs ≡ true) × (m < length roster.masters)

-- one process after the other: each begins by what its file holds then, and takes the entries of a legal history
abbrev pub AreOwnActions : Roster → Process → List Action → Type 0
AreOwnActions roster p [] = Unit {0}
AreOwnActions roster p (d ∷ ds) = IsOwnAction roster p d × AreOwnActions roster (own_after p d) ds

-- what is heard may be heard, by what was sent before
abbrev pub HearsWell : (stores : ℕ) → (ℕ → Process) → List Message → Action → Type 0
HearsWell stores all messages (Opened i w now) = Unit {0}
HearsWell stores all messages (Took i e asker left) = IsHeard (all i).world.plan stores messages i e.input.event
HearsWell stores all messages (Told i m) = Unit {0}

abbrev pub HearWell : (stores : ℕ) → (ℕ → Process) → List Message → List Action → Type 0
HearWell stores all messages [] = Unit {0}
HearWell stores all messages (d ∷ ds) = HearsWell stores all messages d × HearWell stores (action_after all d) (messages ++ sent_by d) ds

-- Where each Sentinel's own actions are in order, and all that is heard was sent before, the actions of all are what the laws of processes ask
abbrev pub OwnActionsAreActions : Type 0
OwnActionsAreActions =
    (roster : Roster) (stores : ℕ) (all : ℕ → Process) (messages : List Message) (actions : List Action)
    → AllByRecursion (λ (d : Action). place_of d < size roster) actions
    → ((i : ℕ) → i < size roster → AreOwnActions roster (all i) (own_of i actions))
    → HearWell stores all messages actions
    → AreActions roster stores all messages actions
