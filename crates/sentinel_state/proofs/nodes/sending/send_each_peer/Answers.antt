use Rattle.std.proofs.Common.{◌<◌, length, arith}
use Rattle.sentinel_rules.specs.Ticks.{peer_after, peer_frames}
use Rattle.sentinel_state.proofs.NodesLemmas.PlaceLoops.{changed_more, frames_more_set}
use Rattle.sentinel_state.proofs.nodes.sending.send_each_peer.Goals as goal

pub loop-place-preserved : goal.loop-place-preserved
loop-place-preserved c =
    let change = peer_after c.args.plan.now c.args.now in
    let puts = peer_frames c.args.plan.now c.args.now in
    let held = c.loop-place.peers in
    let place = c.loop-place.place in
    let old = c.index-peers-place.result in
    let lt : place < length held = omega arith in
    record {
      peers = changed_more change held _ place old c.send.new.self lt c.send.ensures.peer c.loop-place.invariant.peers;
      frames = frames_more_set puts held _ _ _ place old c.send.new.self lt c.send.ensures.frames c.loop-place.invariant.frames;
    }
