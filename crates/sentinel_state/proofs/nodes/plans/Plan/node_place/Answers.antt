use Rattle.std.proofs.Common.{length, ap, ◌∙◌}
use Rattle.std.specs.Prelude.{unwrap_or, position}
use Rattle.ballot_law.specs.Orders.{same_addr}
use Rattle.sentinel_state.proofs.nodes.plans.Plan.node_place.Goals as goal

pub returns-clause-value : goal.returns-clause-value
returns-clause-value c =
    c.unwrap_or.ensures
    ∙ ap (λ place. unwrap_or place (length c.nodes-nodes.result.now)) c.position_of.ensures.value
    ∙ ap (λ nodes. unwrap_or (position (same_addr c.args.addr) nodes) (length nodes)) c.nodes-nodes.ensures.value
