use Rattle.std.proofs.Common.{◌<◌, length, arith}
use Rattle.sentinel_rules.specs.Ticks.{node_after, node_frames}
use Rattle.sentinel_state.proofs.NodesLemmas.PlaceLoops.{changed_more, frames_more_set}
use Rattle.sentinel_state.proofs.nodes.sending.send_each_node.Goals as goal

pub loop-k-preserved : goal.loop-k-preserved
loop-k-preserved c =
    let change = node_after c.args.sending in
    let puts = node_frames c.args.plan.now c.args.m c.args.sending in
    let held = c.loop-k.nodes in
    let k = c.loop-k.k in
    let old = c.index-nodes-k.result in
    let lt : k < length held = omega arith in
    record {
      nodes = changed_more change held _ k old c.send.new.self lt c.send.ensures.node c.loop-k.invariant.nodes;
      frames = frames_more_set puts held _ _ _ k old c.send.new.self lt c.send.ensures.frames c.loop-k.invariant.frames;
    }
