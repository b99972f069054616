use Rattle.std.proofs.Common.{◌≡◌, length}
use Rattle.sentinel_runtime.specs.Hearing.{HeardWell}
use Rattle.sentinel_runtime.proofs.running_sentinel.RunningSentinel.close.Given as goal

-- what is joined so far is a seat of this Sentinel, and its calls took what that may take
abbrev pub invariant-loop-seat : goal.invariant-loop-seat
invariant-loop-seat g l = (l.whole.cell ≡ g.J.Which.cell) × ∥ HeardWell g.J.Which.told l.whole.view ∥₁

abbrev pub decreases-loop-seat : goal.decreases-loop-seat
decreases-loop-seat g l = length l.seats.items
