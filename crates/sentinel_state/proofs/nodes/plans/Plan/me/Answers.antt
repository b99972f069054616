use Rattle.std.proofs.Common.{rules}
use Rattle.sentinel_state.proofs.nodes.plans.Plan.me.Goals as goal

pub returns : goal.returns
returns c = search rules
