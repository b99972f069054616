use Rattle.std.proofs.Common.{◌≡◌, ◌++◌, take, drop}
use Rattle.sentinel_rules.specs.Parts.{changed_from, frames_from}
use Rattle.sentinel_rules.specs.Ticks.{peer_after, peer_frames}
use Rattle.sentinel_state.specs.Nodes.Room.{added}
use Rattle.sentinel_state.proofs.nodes.sending.send_each_peer.Given as goal

abbrev pub invariant-loop-place : goal.invariant-loop-place
invariant-loop-place l =
    let change = peer_after l.plan l.now in
    let puts = peer_frames l.plan l.now in
    record {
      peers : take l.place l.peers ++ changed_from change l.place (drop l.place l.peers) ≡ changed_from change 0 l.initial.peers;
      frames : added l.frames (frames_from puts l.place (drop l.place l.peers)) ≡ added l.initial.frames (frames_from puts 0 l.initial.peers);
    }
