-- What each call of a node ensures, for each image that the node stands for.
use Rattle.std.specs.Prelude.{◌≡◌, ◌≢◌, ℕ, ◌<◌, ◌≤◌, Option, Some, None, IfSome, List, [], ◌∷◌, length, Result, Ok, Err}
use Rattle.ballot_law.specs.declared.cards.Card.{Card}
use Rattle.ballot_law.specs.declared.cards.TheConstants.{MAX_EPOCH}
use Rattle.ballot_law.specs.declared.events.Event.{Event}
use Rattle.ballot_law.specs.declared.messages.NodeName.{NodeName}
use Rattle.ballot_law.specs.declared.messages.Output.{Output}
use Rattle.ballot_law.specs.declared.records.Win.{Win}
use Rattle.ballot_law.specs.declared.steps.KeptText.{KeptText}
use Rattle.ballot_law.specs.Rosters.{Roster}
use Rattle.ballot_law.specs.Worlds.{Ready, Pending, Stored, Stopped}
use Rattle.sentinel_outbox.specs.declared.faults.StoreFault.{StoreFault}
use Rattle.sentinel_outbox.specs.declared.faults.StoreFault.TheVariants as store_fault
use Rattle.sentinel_outbox.specs.declared.faults.TakeFault.{TakeFault}
use Rattle.sentinel_outbox.specs.declared.faults.ReleaseFault.{ReleaseFault}
use Rattle.boxed_nodes.specs.declared.calls.HowStored.{HowStored}
use Rattle.boxed_nodes.specs.Images.{Image, TakenTo, state_of, after_store, store_answer, released_image, stopped_image, started_image, why_not_taken, why_not_released, card_shown, HasStored, wins_of, IsFreshImage, IsOfKind}
use Rattle.boxed_nodes.specs.Sendable.{AreListed}

-- the images that a node stands for in the model of a roster's group
abbrev pub Shows : Type 1
Shows = Roster → Image → Type 0

-- the node stands for all that it stood for
pub record Stays (old new : Shows) : Type 0 where
  pub same : (roster : Roster) (image : Image) → old roster image → new roster image

-- one take: some image after it is one that the model allows, and holds what the outbox holds; of a Sentinel, that advertises
-- configurations of masters of the roster alone
pub record Taken (roster : Roster) (name : NodeName) (event : Event) (image : Image) (held : List Output) (new : Image → Type 0) : Type 0 where
  pub ready : state_of image ≡ Ready
  pub after : Image
  pub moved : TakenTo roster name event image held after
  pub listed : AreListed roster name held
  pub shows : new after

pub record Takes (name : NodeName) (event : Event) (held : List Output) (old new : Shows) : Type 0 where
  pub each : (roster : Roster) (image : Image) → old roster image → Taken roster name event image held (new roster)

-- why no input was taken: a node that is ready lacks room
pub record Refuses (old : Shows) (fits : Type 0) (fault : TakeFault) : Type 0 where
  pub each : (roster : Roster) (image : Image) → old roster image → (fault ≡ why_not_taken (state_of image)) × (state_of image ≡ Ready → ¬ fits)

-- a store: nothing where nothing is pending
pub record Stores (how : HowStored) (result : Result (Unit {0}) StoreFault) (old new : Shows) : Type 0 where
  pub pending : (roster : Roster) (image : Image) → old roster image → state_of image ≡ Pending → (result ≡ store_answer how image) × new roster (after_store how image)
  pub nothing : (roster : Roster) (image : Image) → old roster image → state_of image ≢ Pending → (result ≡ Err store_fault.Nothing) × new roster image

pub record Releases (result : Result (Unit {0}) ReleaseFault) (old new : Shows) : Type 0 where
  pub stored : (roster : Roster) (image : Image) → old roster image → state_of image ≡ Stored → (result ≡ Ok tt) × new roster (released_image image)
  pub unstored : (roster : Roster) (image : Image) → old roster image → state_of image ≢ Stored → (result ≡ Err (why_not_released (state_of image))) × new roster image

pub record Stops (left : KeptText) (old new : Shows) : Type 0 where
  pub each : (roster : Roster) (image : Image) → old roster image → new roster (stopped_image left image)

-- the node goes by its name, in each roster whose group it is in
pub record IsNamed (old : Shows) (name_before name_after : NodeName) : Type 0 where
  pub each : (roster : Roster) (image : Image) → old roster image → name_after ≡ name_before

-- a start of a stopped node
pub record Starts (old new : Shows) : Type 0 where
  pub each : (roster : Roster) (image : Image) → old roster image → state_of image ≡ Stopped → new roster (started_image roster image)

-- each image that the node stands for is of the kind that its name tells
pub record ShowsKind (name : NodeName) (shows : Shows) : Type 0 where
  pub each : (roster : Roster) (image : Image) → shows roster image → IsOfKind name image

pub record ShowsCard (m : ℕ) (card : Option Card) (shows : Shows) : Type 0 where
  pub each : (roster : Roster) (image : Image) → shows roster image → card ≡ card_shown image m
  pub stored : (roster : Roster) (image : Image) → shows roster image → HasStored roster image

-- master and epoch of the election that the last take brought
abbrev pub wins_told : Option (ℕ × ℕ) → List Win
wins_told None = []
wins_told (Some won) = (record { master = won.0; epoch = won.1 }) ∷ []

-- it is of a master of the roster, and its epoch is within the limit
abbrev pub IsWonIn : Roster → Option (ℕ × ℕ) → Type 0
IsWonIn roster won = IfSome won (λ w. (w.0 < length roster.masters) × (w.1 ≤ MAX_EPOCH))

pub record ShowsWin (won : Option (ℕ × ℕ)) (shows : Shows) : Type 0 where
  pub each : (roster : Roster) (image : Image) → shows roster image → wins_of image ≡ wins_told won
  pub listed : (roster : Roster) (image : Image) → shows roster image → IsWonIn roster won

-- fresh: in each roster that it knows, it stands for a node that a run can begin with
pub record IsFresh (knows : Roster → Type 0) (shows : Shows) : Type 0 where
  pub each : (roster : Roster) → knows roster → (image : Image) × IsFreshImage roster image × shows roster image
