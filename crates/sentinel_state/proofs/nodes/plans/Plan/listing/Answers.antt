use Rattle.std.proofs.Common.{ap, ◌∙◌}
use Rattle.ballot_law.specs.Rosters.{Roster, master_listing}
use Rattle.sentinel_state.proofs.nodes.plans.Plan.listing.Goals as goal

pub returns : goal.returns
returns c = c.master_at.ensures.first ∙ ap (λ (r : Roster). master_listing r.masters c.args.addr) c.roster.ensures
