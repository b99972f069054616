use Rattle.std.proofs.lemmas.Grind.{common_steps}
use Rattle.std.proofs.Common.{arith}
use Rattle.sentinel_state.proofs.nodes.plans.Plan.settings.Goals as goal

pub returns : goal.returns
returns c = grind (arith, common_steps)
