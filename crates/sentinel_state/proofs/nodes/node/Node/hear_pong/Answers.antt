use Rattle.std.proofs.Common.{arith}
use Rattle.std.proofs.lemmas.Grind.{common_steps}
use Rattle.sentinel_state.proofs.nodes.node.Node.hear_pong.Goals as goal

pub returns-in-Other : goal.returns-in-Other
returns-in-Other c = grind (arith, common_steps)
