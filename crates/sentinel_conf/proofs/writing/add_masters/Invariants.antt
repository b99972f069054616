use Rattle.std.proofs.Common.{◌≡◌, ◌++◌, length}
use Rattle.sentinel_conf.specs.Fixed.{all_with_fixed}
use Rattle.sentinel_conf.specs.Room.{bounded}
use Rattle.sentinel_conf.proofs.writing.add_masters.Given as goal

abbrev pub invariant-loop-rest : goal.invariant-loop-rest
invariant-loop-rest l =
    bounded (l.fn.out ++ all_with_fixed l.masters l.kept l.sentinels)
    ≡ bounded (l.out ++ all_with_fixed l.rest l.held l.fixed)

abbrev pub decreases-loop-rest : goal.decreases-loop-rest
decreases-loop-rest l = length l.rest
