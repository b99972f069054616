-- A node as the model of the group sees it, and how each call moves it.
use Rattle.std.specs.Prelude.{◌≡◌, ◌≢◌, ◌<◌, ℕ, Bool, true, false, Option, Some, None, List, [], All, length, ◌-◌, nat_lt, if◌then◌else◌, Result, Ok, Err, slice_index_or}
use Rattle.ballot_law.specs.declared.cards.Card.{Card}
use Rattle.ballot_law.specs.declared.cards.Kept.{Kept}
use Rattle.ballot_law.specs.declared.events.Event.{Event}
use Rattle.ballot_law.specs.declared.messages.NodeName.{NodeName}
use Rattle.ballot_law.specs.declared.messages.NodeName.TheVariants.{SentinelAt, StoreAt, ClientAt, PortAt}
use Rattle.ballot_law.specs.declared.messages.Output.{Output}
use Rattle.ballot_law.specs.declared.records.Win.{Win}
use Rattle.ballot_law.specs.declared.steps.KeptText.{KeptText}
use Rattle.ballot_law.specs.declared.steps.KeptText.TheVariants.{Old, New}
use Rattle.ballot_law.specs.Rosters.{Roster}
use Rattle.ballot_law.specs.Ballots.{card_of}
use Rattle.ballot_law.specs.Worlds.{World, Sentinel, Other, State, Ready, Pending, Stored, Halted, Stopped, no_other, sentinel_at, other_at, Choice, IsChoice, IsPassable, taken, stored_now, released, ended, ended_new, started}
use Rattle.ballot_law.specs.Law.{IsWellFormed}
use Rattle.boxed_nodes.specs.declared.calls.HowStored.{HowStored}
use Rattle.boxed_nodes.specs.declared.calls.HowStored.TheVariants as how
use Rattle.sentinel_outbox.specs.declared.faults.StoreFault.{StoreFault}
use Rattle.sentinel_outbox.specs.declared.faults.StoreFault.TheVariants as store_fault
use Rattle.sentinel_outbox.specs.declared.faults.TakeFault.{TakeFault}
use Rattle.sentinel_outbox.specs.declared.faults.TakeFault.TheVariants as take_fault
use Rattle.sentinel_outbox.specs.declared.faults.ReleaseFault.{ReleaseFault}
use Rattle.sentinel_outbox.specs.declared.faults.ReleaseFault.TheVariants as release_fault

-- a Sentinel, or another node
pub data Image : Type 0 where
  OfSentinel : Sentinel → Image
  OfOther : Other → Image

-- the kind of node that has the name
abbrev pub IsOfKind : NodeName → Image → Type 0
IsOfKind (SentinelAt i) (OfSentinel s) = Unit {0}
IsOfKind (StoreAt k) (OfOther o) = Unit {0}
IsOfKind (ClientAt k) (OfOther o) = Unit {0}
IsOfKind name image = ⊥

-- what the node with this name is in a world
abbrev pub image_at : World → NodeName → Image
image_at w (SentinelAt i) = OfSentinel (sentinel_at w i)
image_at w (StoreAt k) = OfOther (other_at w (StoreAt k))
image_at w (ClientAt k) = OfOther (other_at w (ClientAt k))
image_at w (PortAt k) = OfOther no_other

abbrev pub state_of : Image → State
state_of (OfSentinel s) = s.state
state_of (OfOther o) = o.state

abbrev pub held_of : Image → List Output
held_of (OfSentinel s) = s.held
held_of (OfOther o) = o.held

abbrev pub is_pending : State → Bool
is_pending Ready = false
is_pending Pending = true
is_pending Stored = false
is_pending Halted = false
is_pending Stopped = false

abbrev pub is_stored : State → Bool
is_stored Ready = false
is_stored Pending = false
is_stored Stored = true
is_stored Halted = false
is_stored Stopped = false

abbrev pub is_stopped : State → Bool
is_stopped Ready = false
is_stopped Pending = false
is_stopped Stored = false
is_stopped Halted = false
is_stopped Stopped = true

-- What a call makes of an image

-- a take of a ready node, with what it then holds; the node chooses
abbrev pub TakenTo : Roster → NodeName → Event → Image → List Output → Image → Type 0
TakenTo roster (SentinelAt i) event (OfSentinel s) held after =
    (choice : Choice) × IsChoice roster i event s choice × (choice.held ≡ held) × (after ≡ OfSentinel (taken s choice))
TakenTo roster (StoreAt k) event (OfOther o) held after =
    All (IsPassable (StoreAt k) event) held × (after ≡ OfOther (record { state = Pending; held = held }))
TakenTo roster (ClientAt k) event (OfOther o) held after =
    All (IsPassable (ClientAt k) event) held × (after ≡ OfOther (record { state = Pending; held = held }))
TakenTo roster name event image held after = ⊥

-- a store of a pending node
abbrev pub stored_image : Image → Image
stored_image (OfSentinel s) = OfSentinel (stored_now s)
stored_image (OfOther o) = OfOther (record o { state = Stored })

-- with nothing to store no store can be refused
abbrev pub refused_sentinel : Sentinel → (must_store : Bool) → KeptText → Sentinel
refused_sentinel s false left = stored_now s
refused_sentinel s true Old = ended s Halted
refused_sentinel s true New = ended_new s Halted

abbrev pub refused_image : KeptText → Image → Image
refused_image left (OfSentinel s) = OfSentinel (refused_sentinel s s.must_store left)
refused_image left (OfOther o) = OfOther (record o { state = Stored })

abbrev pub how_left : KeptText → HowStored
how_left Old = how.RefusedOld
how_left New = how.RefusedNew

abbrev pub after_store : HowStored → Image → Image
after_store how.Done image = stored_image image
after_store how.RefusedOld image = refused_image Old image
after_store how.RefusedNew image = refused_image New image

-- whether a refusal finds something to store
abbrev pub has_text : Image → Bool
has_text (OfSentinel s) = s.must_store
has_text (OfOther o) = false

abbrev pub refusal : Bool → Result (Unit {0}) StoreFault
refusal true = Err store_fault.Refused
refusal false = Ok tt

-- what a store of a pending node answers
abbrev pub store_answer : HowStored → Image → Result (Unit {0}) StoreFault
store_answer how.Done image = Ok tt
store_answer how.RefusedOld image = refusal (has_text image)
store_answer how.RefusedNew image = refusal (has_text image)

abbrev pub released_image : Image → Image
released_image (OfSentinel s) = OfSentinel (released s)
released_image (OfOther o) = OfOther (record { state = Ready; held = [] })

-- only a stop within a take can leave a new text
abbrev pub stopped_sentinel : Sentinel → State → KeptText → Sentinel
stopped_sentinel s Pending New = ended_new s Stopped
stopped_sentinel s _ _ = ended s Stopped

abbrev pub stopped_image : KeptText → Image → Image
stopped_image left (OfSentinel s) = OfSentinel (stopped_sentinel s s.state left)
stopped_image left (OfOther o) = OfOther (record o { state = Stopped })

abbrev pub started_image : Roster → Image → Image
started_image roster (OfSentinel s) = OfSentinel (started roster s.file)
started_image roster (OfOther o) = OfOther (record { state = Ready; held = [] })

-- why a node that isn't ready takes no input, and why one that has stored nothing releases nothing
abbrev pub why_not_taken : State → TakeFault
why_not_taken Ready = take_fault.NoRoom
why_not_taken Pending = take_fault.Busy
why_not_taken Stored = take_fault.Busy
why_not_taken Halted = take_fault.Halted
why_not_taken Stopped = take_fault.Stopped

abbrev pub why_not_released : State → ReleaseFault
why_not_released Ready = release_fault.Unstored
why_not_released Pending = release_fault.Unstored
why_not_released Stored = release_fault.Unstored
why_not_released Halted = release_fault.Halted
why_not_released Stopped = release_fault.Unstored

-- What is read off an image

abbrev pub no_kept : Kept
no_kept = record { current = 0; masters = [] }

-- the file as last stored since the start
abbrev pub last_stored : Sentinel → Kept
last_stored s = slice_index_or s.stored (length s.stored - 1) no_kept

abbrev pub card_shown : Image → (m : ℕ) → Option Card
card_shown (OfSentinel s) m =
    if is_stopped s.state then None
    else (if nat_lt m (length (last_stored s).masters) then Some (card_of (last_stored s) m) else None)
card_shown (OfOther o) m = None

-- a Sentinel that isn't stopped has stored something since its start, with a configuration of each master
abbrev pub HasStored : Roster → Image → Type 0
HasStored roster (OfSentinel s) =
    (s.state ≢ Stopped) → (0 < length s.stored) × (length (last_stored s).masters ≡ length roster.masters)
HasStored roster (OfOther o) = Unit {0}

abbrev pub wins_of : Image → List Win
wins_of (OfSentinel s) = s.parts.wins
wins_of (OfOther o) = []

-- where a run can begin: ready, with a well formed file and nothing else
abbrev pub IsFreshImage : Roster → Image → Type 0
IsFreshImage roster (OfSentinel s) = (s ≡ started roster s.file) × IsWellFormed roster s.file
IsFreshImage roster (OfOther o) = o ≡ record { state = Ready; held = [] }
