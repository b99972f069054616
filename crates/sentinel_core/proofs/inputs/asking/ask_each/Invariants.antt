use Rattle.std.proofs.Common.{◌≡◌, drop}
use Rattle.sentinel_rules.specs.Parts.{frames_from}
use Rattle.sentinel_rules.specs.Ticks.{ask_frames}
use Rattle.sentinel_state.specs.Nodes.Room.{added}
use Rattle.sentinel_core.proofs.inputs.asking.ask_each.Given as goal

abbrev pub invariant-loop-place : goal.invariant-loop-place
invariant-loop-place l =
    let puts = ask_frames l.plan l.m l.candidate in
    added l.frames (frames_from puts l.place (drop l.place l.peers)) ≡ added l.initial.frames (frames_from puts 0 l.peers)
