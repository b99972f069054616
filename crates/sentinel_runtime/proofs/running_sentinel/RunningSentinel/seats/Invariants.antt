use Rattle.std.proofs.Common.{◌≡◌, ◌+◌, ◌-◌, ◌*◌, length}
use Rattle.std.specs.List.{sum_by}
use Rattle.sentinel_runtime.proofs.running_sentinel.RunningSentinel.seats.Given as goal

-- each share is that of a seat which is made or of one that may be cut still
abbrev pub invariant-loop-seat : goal.invariant-loop-seat
invariant-loop-seat g l = sum_by (λ t. t.seat.view.share) l.left.items + length l.seats.items ≡ l.fn.seat.seat.view.share

-- a cut and a seat that is made lessen this by one
abbrev pub decreases-loop-seat : goal.decreases-loop-seat
decreases-loop-seat g l = sum_by (λ t. 2 * t.seat.view.share - 1) l.left.items
