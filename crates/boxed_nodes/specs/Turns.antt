-- The images for which a node stands that isn't a Sentinel.
use Rattle.std.specs.Prelude.{◌≡◌}
use Rattle.ballot_law.specs.Worlds.{State, Ready, Pending, Stored, Stopped}
use Rattle.boxed_nodes.specs.Images.{Image, OfSentinel, OfOther}
use Rattle.boxed_nodes.specs.Moves.{Shows}
use Rattle.boxed_nodes.specs.declared.turn.Turn.{Turn}
use Rattle.boxed_nodes.specs.declared.turn.Turn.TheVariants as turn

abbrev pub state_at : Turn → State
state_at turn.Ready = Ready
state_at turn.Pending = Pending
state_at turn.Stored = Stored
state_at turn.Stopped = Stopped

-- another node in this state, whatever it holds
abbrev pub IsImageAt : Turn → Image → Type 0
IsImageAt t (OfOther o) = o.state ≡ state_at t
IsImageAt t (OfSentinel s) = ⊥

-- the images of a node at this turn, in the model of each roster's group
abbrev pub shown_at : Turn → Shows
shown_at t roster image = IsImageAt t image
