use Rattle.std.proofs.Common.{[], refl}
use Rattle.ballot_law.specs.Worlds.{Ready}
use Rattle.boxed_nodes.specs.Images.{OfOther}
use Rattle.boxed_nodes.proofs.clients.client_node.ClientNode.new.Goals as goal

pub returns-clause-fresh : goal.returns-clause-fresh
returns-clause-fresh c = record { each = λ roster known. (OfOther (record { state = Ready; held = [] }), refl, refl) }
