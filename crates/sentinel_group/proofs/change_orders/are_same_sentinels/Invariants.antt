use Rattle.std.proofs.Common.{◌≡◌, length}
use Rattle.sentinel_group.proofs.change_orders.are_same_sentinels.Given as goal

abbrev pub invariant-loop-rest : goal.invariant-loop-rest
invariant-loop-rest l = l.rest ≡ l.others → l.some ≡ l.all

abbrev pub decreases-loop-rest : goal.decreases-loop-rest
decreases-loop-rest l = length l.rest
