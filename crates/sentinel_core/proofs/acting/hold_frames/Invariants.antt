use Rattle.std.proofs.Common.{◌≡◌, ◌≤◌, ◌+◌, ◌++◌, length, map}
use Rattle.std.specs.List.{AllByRecursion}
use Rattle.ballot_law.specs.declared.messages.TheConstants.{OUTPUTS_MAX}
use Rattle.sentinel_rules.specs.Named.{IsNamed}
use Rattle.sentinel_rules.specs.Parts.{output_of}
use Rattle.sentinel_core.proofs.acting.hold_frames.Given as goal

abbrev pub invariant-loop-left : goal.invariant-loop-left
invariant-loop-left l =
    (l.outbox.held ++ map (output_of l.state.plan l.state.core) l.left ≡ map (output_of l.state.plan l.state.core) l.state.frames)
    × AllByRecursion (IsNamed l.state.plan) l.left
    × (length l.outbox.held + length l.left ≤ OUTPUTS_MAX)
    × (OUTPUTS_MAX ≤ l.outbox.held_room)
    × (OUTPUTS_MAX ≤ l.outbox.shown_room)
    × (l.outbox.shown ≡ l.initial.outbox.shown)

abbrev pub decreases-loop-left : goal.decreases-loop-left
decreases-loop-left l = length l.left
