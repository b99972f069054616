use Rattle.std.proofs.Common.{length}
use Rattle.std.specs.List.{AllZip}
use Rattle.sentinel_group.specs.Orders.{IsSameMaster}
use Rattle.sentinel_group.proofs.change_orders.are_same_masters.Given as goal

abbrev pub invariant-loop-rest : goal.invariant-loop-rest
invariant-loop-rest l = AllZip IsSameMaster l.rest l.others → AllZip IsSameMaster l.some l.all

abbrev pub decreases-loop-rest : goal.decreases-loop-rest
decreases-loop-rest l = length l.rest
