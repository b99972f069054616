use Rattle.std.proofs.Common.{◌≡◌, ◌++◌, take}
use Rattle.fault_world.proofs.stops.add_copies.Given as goal

abbrev pub invariant-loop-step : goal.invariant-loop-step
invariant-loop-step l = l.made.items ≡ l.fn.made.items ++ take l.step-index l.steps
