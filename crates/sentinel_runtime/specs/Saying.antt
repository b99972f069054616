-- What a Sentinel may say and note: what its stored entries release, and nothing else.
use Rattle.std.specs.Prelude.{◌≡◌, ℕ, List, [], ◌∷◌, ◌++◌, length}
use Rattle.ballot_law.specs.declared.messages.Message.{Message}
use Rattle.ballot_law.specs.declared.messages.Note.{Note}
use Rattle.ballot_law.specs.declared.messages.Output.{Output}
use Rattle.ballot_law.specs.declared.messages.Output.TheVariants.{Send, Tell}
use Rattle.sentinel_cell.specs.declared.entry.Entry.{Entry}
use Rattle.sentinel_cell.specs.declared.entry.Outcome.TheVariants.{Stored}
use Rattle.sentinel_cell.specs.Histories.{World, IsLegal}

-- a stored entry of a legal history that begins at this world has the message among its outputs
pub record IsReleased (start : World) (message : Message) : Type 0 where
  pub earlier : List Entry
  pub entry : Entry
  pub legal : IsLegal start (earlier ++ entry ∷ [])
  pub stored : entry.outcome ≡ Stored
  pub before : List Output
  pub after : List Output
  pub among : entry.outputs ≡ before ++ Send message ∷ after

-- the message that an output is may be said; a note is none
abbrev pub IsSaid : (said : Message → Type 0) → Output → Type 0
IsSaid said (Send message) = ∥ said message ∥₁
IsSaid said (Tell note) = Unit {0}

-- a stored entry of a legal history that begins at this world has the note among its outputs, and so many entries stand before it
pub record IsNoted (start : World) (note : Note) (number : ℕ) : Type 0 where
  pub earlier : List Entry
  pub entry : Entry
  pub legal : IsLegal start (earlier ++ entry ∷ [])
  pub stored : entry.outcome ≡ Stored
  pub numbered : number ≡ length earlier
  pub before : List Output
  pub after : List Output
  pub among : entry.outputs ≡ before ++ Tell note ∷ after

-- the note that an output of the entry with this number is may be told; a message is none
abbrev pub MayNote : (noted : Note → ℕ → Type 0) → (number : ℕ) → Output → Type 0
MayNote noted number (Send message) = Unit {0}
MayNote noted number (Tell note) = ∥ noted note number ∥₁
