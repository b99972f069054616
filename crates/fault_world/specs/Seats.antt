-- A node with its outbox, and what the calls of a step make of it.
use Rattle.std.specs.Prelude.{◌≡◌, ◌≢◌, ℕ, Bool, if◌then◌else◌, Option, None, List, [], ◌++◌, is_ok}
use Rattle.std.specs.List.{AllByRecursion}
use Rattle.ballot_law.specs.declared.events.Event.{Event}
use Rattle.ballot_law.specs.declared.messages.NodeName.{NodeName}
use Rattle.ballot_law.specs.declared.messages.Output.{Output}
use Rattle.ballot_law.specs.declared.records.Win.{Win}
use Rattle.ballot_law.specs.Rosters.{Roster}
use Rattle.ballot_law.specs.Worlds.{Ready, Pending, Stored, Stopped}
use Rattle.boxed_nodes.specs.declared.calls.HowStored.{HowStored}
use Rattle.boxed_nodes.specs.Images.{Image, TakenTo, state_of, held_of, after_store, store_answer, is_stopped, released_image, started_image, wins_of}
use Rattle.boxed_nodes.specs.Moves.{Shows, wins_told, IsWonIn}
use Rattle.boxed_nodes.specs.Sendable.{IsSendableOutput, IsHeldBy, AreListed}

-- a member stands for this image: its node goes by the member's name and stands for the image; the outbox holds what the image holds,
-- which the node may send, and which advertises masters of the roster alone; the flag says whether it is stopped; one that is ready
-- holds nothing
pub record IsSeat (named own : NodeName) (shows : Shows) (held : List Output) (stopped : Bool) (roster : Roster) (image : Image) : Type 0 where
  pub goes_by : own ≡ named
  pub shows_it : shows roster image
  pub held_is : held_of image ≡ held
  pub sendable : AllByRecursion IsSendableOutput held
  pub held_by : IsHeldBy named held
  pub listed : AreListed roster named held
  pub told : stopped ≡ is_stopped (state_of image)
  pub quiet : state_of image ≡ Ready → held ≡ []

-- What a call makes of a member, for each image that it stands for; in any other state it stands for what it stood for

-- an image after a take that the model allows, for which the member then stands
pub record SeatTaken (roster : Roster) (name : NodeName) (event : Event) (image : Image) (new : Image → Type 0) : Type 0 where
  pub held : List Output
  pub after : Image
  pub moved : TakenTo roster name event image held after
  pub shows : new after

pub record SeatTakes (name : NodeName) (event : Event) (old new : Shows) : Type 0 where
  pub ready : (roster : Roster) (image : Image) → old roster image → state_of image ≡ Ready → SeatTaken roster name event image (new roster)
  pub other : (roster : Roster) (image : Image) → old roster image → state_of image ≢ Ready → new roster image

-- the wins that a store makes elections: none where it is refused; each is of a master of the roster
abbrev pub wins_stored : HowStored → Image → List Win
wins_stored how image = if is_ok (store_answer how image) then wins_of image else []

pub record SeatStores (how : HowStored) (won : Option (ℕ × ℕ)) (old new : Shows) : Type 0 where
  pub pending : (roster : Roster) (image : Image) → old roster image → state_of image ≡ Pending →
      new roster (after_store how image) × (wins_told won ≡ wins_stored how image) × IsWonIn roster won
  pub other : (roster : Roster) (image : Image) → old roster image → state_of image ≢ Pending → new roster image × (won ≡ None)

-- what the image held joins the list of outputs
pub record SeatReleases (before after : List Output) (old new : Shows) : Type 0 where
  pub stored : (roster : Roster) (image : Image) → old roster image → state_of image ≡ Stored → new roster (released_image image) × (after ≡ before ++ held_of image)
  pub other : (roster : Roster) (image : Image) → old roster image → state_of image ≢ Stored → new roster image × (after ≡ before)

pub record SeatStarts (old new : Shows) : Type 0 where
  pub stopped : (roster : Roster) (image : Image) → old roster image → state_of image ≡ Stopped → new roster (started_image roster image)
  pub other : (roster : Roster) (image : Image) → old roster image → state_of image ≢ Stopped → new roster image
