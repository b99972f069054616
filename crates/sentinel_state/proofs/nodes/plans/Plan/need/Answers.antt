use Rattle.std.proofs.Common.{ap, ◌∙◌}
use Rattle.ballot_law.specs.Rosters.{Roster, need}
use Rattle.sentinel_state.proofs.nodes.plans.Plan.need.Goals as goal

pub returns : goal.returns
returns c = c.need.ensures ∙ ap (λ (r : Roster). need r c.args.m) c.roster.ensures
