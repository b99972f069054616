use Rattle.std.proofs.Common.{◌≡◌, drop}
use Rattle.sentinel_rules.specs.Parts.{frames_from}
use Rattle.sentinel_rules.specs.States.{failover_of}
use Rattle.sentinel_rules.specs.Ticks.{order_frames}
use Rattle.sentinel_state.specs.Nodes.Room.{added}
use Rattle.sentinel_core.proofs.inputs.failing_over.order_replicas.Given as goal

abbrev pub invariant-loop-k : goal.invariant-loop-k
invariant-loop-k l =
    let puts = order_frames l.plan l.m in
    let replicas = (failover_of l.core l.m).replicas in
    added l.frames (frames_from puts l.k (drop l.k replicas)) ≡ added l.initial.frames (frames_from puts 0 replicas)
