use Rattle.std.proofs.Common.{◌<◌, length, arith}
use Rattle.failover_states.specs.Replicas.{untouched}
use Rattle.sentinel_rules.specs.States.{failover_of}
use Rattle.sentinel_rules.specs.Ticks.{order_frames}
use Rattle.sentinel_state.proofs.NodesLemmas.PlaceLoops.{frames_more}
use Rattle.sentinel_core.proofs.inputs.failing_over.order_replicas.Goals as goal

pub loop-k-preserved : goal.loop-k-preserved
loop-k-preserved c =
    let replicas = (failover_of c.args.core.now c.args.m).replicas in
    let less : c.loop-k.k < length replicas = omega arith in
    frames_more (order_frames c.args.plan.now c.args.m) replicas _ _ _ c.loop-k.k untouched less c.order_replica.ensures c.loop-k.invariant
