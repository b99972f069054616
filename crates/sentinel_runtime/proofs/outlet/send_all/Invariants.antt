use Rattle.std.proofs.Common.{◌≡◌, ◌++◌, take}
use Rattle.std.specs.Prelude.{Some, IfSome}
use Rattle.ballot_law.specs.Messages.{sent}
use Rattle.sentinel_runtime.proofs.outlet.send_all.Given as goal

-- the messages of the outputs that were looked at were handed over
abbrev pub invariant-loop-output : goal.invariant-loop-output
invariant-loop-output g l =
    IfSome (g.O.Outlet.handed l.fn.outlet) (λ before. g.O.Outlet.handed l.outlet ≡ Some (before ++ sent (take l.output-index l.outputs)))
