use Rattle.std.proofs.Common.{◌≡◌, ◌++◌, not, length}
use Rattle.std.specs.Prelude.{filter}
use Rattle.ballot_law.specs.Orders.{same_bytes}
use Rattle.conf_check.proofs.change.changed_rosters.masters_without.Given as goal

abbrev pub invariant-loop-rest : goal.invariant-loop-rest
invariant-loop-rest l = filter (λ master. not (same_bytes l.gone master.name)) l.masters ≡ l.list.items ++ filter (λ master. not (same_bytes l.gone master.name)) l.rest

abbrev pub decreases-loop-rest : goal.decreases-loop-rest
decreases-loop-rest l = length l.rest
