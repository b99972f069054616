use Rattle.std.proofs.Common.{◌≡◌, ◌++◌, map, length}
use Rattle.conf_check.specs.Change.ChangedRosters.{moved}
use Rattle.conf_check.proofs.change.changed_rosters.all_moved.Given as goal

abbrev pub invariant-loop-rest : goal.invariant-loop-rest
invariant-loop-rest l = map (moved l.host) l.addrs ≡ l.list.items ++ map (moved l.host) l.rest

abbrev pub decreases-loop-rest : goal.decreases-loop-rest
decreases-loop-rest l = length l.rest
