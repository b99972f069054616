use Rattle.std.proofs.Common.{◌≡◌, ◌++◌, map, length}
use Rattle.conf_check.specs.Change.ChangedRosters.{changed_master}
use Rattle.conf_check.proofs.change.changed_rosters.each_changed.Given as goal

abbrev pub invariant-loop-rest : goal.invariant-loop-rest
invariant-loop-rest l = map (changed_master l.change) l.masters ≡ l.list.items ++ map (changed_master l.change) l.rest

abbrev pub decreases-loop-rest : goal.decreases-loop-rest
decreases-loop-rest l = length l.rest
