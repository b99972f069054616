use Rattle.sentinel_runtime.proofs.HeardWell.{left_well}
use Rattle.sentinel_runtime.proofs.running_sentinel.RunningSentinel.close.Goals as goal

pub returns : goal.returns
returns g c =
    rw c.ok.ensures.value
    (left_well g.J.Which.told _ _ _ c.loop-seat.whole.view c.close.result c.close.ensures.ok c.close.ensures.calls c.loop-seat.invariant.1)
