use Rattle.std.proofs.Common.{◌≡◌, ◌++◌, not, length}
use Rattle.std.specs.Prelude.{filter}
use Rattle.ballot_law.specs.Orders.{same_addr}
use Rattle.conf_check.proofs.change.changed_rosters.nodes_without.Given as goal

abbrev pub invariant-loop-rest : goal.invariant-loop-rest
invariant-loop-rest l = filter (λ addr. not (same_addr l.gone addr)) l.nodes ≡ l.list.items ++ filter (λ addr. not (same_addr l.gone addr)) l.rest

abbrev pub decreases-loop-rest : goal.decreases-loop-rest
decreases-loop-rest l = length l.rest
