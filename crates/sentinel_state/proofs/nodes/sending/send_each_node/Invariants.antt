use Rattle.std.proofs.Common.{◌≡◌, ◌++◌, take, drop}
use Rattle.sentinel_rules.specs.Parts.{changed_from, frames_from}
use Rattle.sentinel_rules.specs.Ticks.{node_after, node_frames}
use Rattle.sentinel_state.specs.Nodes.Room.{added}
use Rattle.sentinel_state.proofs.nodes.sending.send_each_node.Given as goal

abbrev pub invariant-loop-k : goal.invariant-loop-k
invariant-loop-k l =
    let change = node_after l.sending in
    let puts = node_frames l.plan l.m l.sending in
    record {
      nodes : take l.k l.nodes ++ changed_from change l.k (drop l.k l.nodes) ≡ changed_from change 0 l.initial.nodes;
      frames : added l.frames (frames_from puts l.k (drop l.k l.nodes)) ≡ added l.initial.frames (frames_from puts 0 l.initial.nodes);
    }
