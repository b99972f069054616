use Rattle.std.proofs.Common.{◌+◌, ap}
use Rattle.ballot_law.specs.declared.messages.NodeName.TheVariants.{StoreAt}
use Rattle.sentinel_state.proofs.nodes.plans.Plan.node_name.Goals as goal

pub returns : goal.returns
returns c = ap (λ first. StoreAt (first + c.args.k)) c.first_number.ensures.value
