use Rattle.std.proofs.Common.{ap, ◌∙◌}
use Rattle.ballot_law.specs.Rosters.{Roster, master_at}
use Rattle.sentinel_state.proofs.nodes.plans.Plan.nodes.Goals as goal

pub returns-clause-value : goal.returns-clause-value
returns-clause-value c = c.nodes.ensures.value ∙ ap (λ (r : Roster). (master_at r c.args.m).nodes) c.roster.ensures
