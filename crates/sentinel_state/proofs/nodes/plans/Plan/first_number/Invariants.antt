use Rattle.std.proofs.Common.{◌≡◌}
use Rattle.ballot_law.specs.NodePlaces.{first_number}
use Rattle.sentinel_state.proofs.nodes.plans.Plan.first_number.Given as goal

abbrev pub invariant-loop-before : goal.invariant-loop-before
invariant-loop-before l = l.number ≡ first_number l.self.conf.roster.masters l.before
