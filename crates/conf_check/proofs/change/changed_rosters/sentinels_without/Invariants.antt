use Rattle.std.proofs.Common.{◌≡◌, ◌++◌, not, length}
use Rattle.std.specs.Prelude.{filter}
use Rattle.ballot_law.specs.Orders.{same_id}
use Rattle.conf_check.proofs.change.changed_rosters.sentinels_without.Given as goal

abbrev pub invariant-loop-rest : goal.invariant-loop-rest
invariant-loop-rest l = filter (λ member. not (same_id l.id member.id)) l.members ≡ l.list.items ++ filter (λ member. not (same_id l.id member.id)) l.rest

abbrev pub decreases-loop-rest : goal.decreases-loop-rest
decreases-loop-rest l = length l.rest
