use Rattle.std.proofs.Common.{◌≡◌, ◌++◌, map, length}
use Rattle.conf_check.specs.Change.ChangedRosters.{replaced}
use Rattle.conf_check.proofs.change.changed_rosters.all_replaced.Given as goal

abbrev pub invariant-loop-rest : goal.invariant-loop-rest
invariant-loop-rest l = map (replaced l.host) l.members ≡ l.list.items ++ map (replaced l.host) l.rest

abbrev pub decreases-loop-rest : goal.decreases-loop-rest
decreases-loop-rest l = length l.rest
