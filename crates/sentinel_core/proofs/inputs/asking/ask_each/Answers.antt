use Rattle.std.proofs.Common.{◌≡◌, ◌<◌, length, arith, get_or, rules}
use Rattle.sentinel_rules.specs.States.{no_peer}
use Rattle.sentinel_rules.specs.Ticks.{ask_frames}
use Rattle.sentinel_state.specs.Nodes.Room.{added}
use Rattle.sentinel_state.proofs.NodesLemmas.PlaceLoops.{frames_more}
use Rattle.sentinel_core.proofs.inputs.asking.ask_each.Goals as goal

pub loop-place-preserved : goal.loop-place-preserved
loop-place-preserved c =
    let puts = ask_frames c.args.plan.now c.args.m c.args.candidate in
    let held = c.args.peers.now in
    let place = c.loop-place.place in
    let lt : place < length held = omega arith in
    let put : c.push_if.new.self ≡ added c.loop-place.frames (puts place (get_or held place no_peer)) = search rules in
    frames_more puts held _ _ _ place no_peer lt put c.loop-place.invariant
