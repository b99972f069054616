-- A group that stands for a world of a roster stands for one of the same roster by another name.
use Rattle.std.proofs.Common.{◌≡◌, List, subst, sym}
use Rattle.ballot_law.specs.declared.messages.Message.{Message}
use Rattle.ballot_law.specs.declared.messages.NodeName.{NodeName}
use Rattle.ballot_law.specs.Rosters.{Roster}
use Rattle.boxed_nodes.specs.Images.{Image}
use Rattle.fault_world.specs.Standing.{IsShown, Stands}

pub stands_in : {M : Type 0} (old new : Roster) (members : List M) (messages : List Message) → new ≡ old → (name : M → NodeName) (seat : M → Roster → Image → Type 0) →
    Stands old (IsShown name seat old members messages) → Stands new (IsShown name seat new members messages)
stands_in old new members messages same name seat stands = subst (λ r. Stands r (IsShown name seat r members messages)) (sym same) stands
