use Rattle.std.proofs.Common.{ap, ◌∙◌}
use Rattle.std.specs.List.{list_any}
use Rattle.ballot_law.specs.Orders.{same_addr}
use Rattle.ballot_law.specs.Rosters.{Roster, master_at}
use Rattle.sentinel_state.proofs.nodes.plans.Plan.has_node.Goals as goal

pub returns : goal.returns
returns c = c.has_node.ensures ∙ ap (λ (r : Roster). list_any (same_addr c.args.addr) (master_at r c.args.m).nodes) c.roster.ensures
