-- The worlds of the model for which a group of boxed nodes stands.
use Rattle.std.specs.Prelude.{List}
use Rattle.ballot_law.specs.declared.messages.Message.{Message}
use Rattle.ballot_law.specs.declared.messages.NodeName.{NodeName}
use Rattle.ballot_law.specs.Rosters.{Roster}
use Rattle.ballot_law.specs.Worlds.{World}
use Rattle.boxed_nodes.specs.Moves.{Shows}
use Rattle.fault_world.specs.declared.seated.Seated.{Seated}
use Rattle.fault_world.specs.Seats.{IsSeat}
use Rattle.fault_world.specs.Standing.{IsShown}

-- those that the members show once these messages are sent, where `name` and `shows` tell the name of a node and what it stands for
abbrev pub Shown : {X : Type 0} {V : X → Type 0} {N : Type 0} → (node : Seated X V → N) (name : N → NodeName) (shows : N → Shows)
    → Roster → List (Seated X V) → List Message → World → Type 0
Shown node name shows roster members messages =
    IsShown (λ m. m.name) (λ m. IsSeat m.name (name (node m)) (shows (node m)) m.outbox.held m.stopped) roster members messages
