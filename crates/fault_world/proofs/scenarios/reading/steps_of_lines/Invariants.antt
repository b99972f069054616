use Rattle.std.proofs.Common.{◌≡◌, ◌+◌, ◌≤◌, length, All}
use Rattle.ballot_law.specs.Cuts.{lines}
use Rattle.fault_world.specs.Scenarios.Scenarios.{behind, steps_from}
use Rattle.fault_world.specs.Scenarios.Within.{IsWithinStep}
use Rattle.fault_world.proofs.scenarios.reading.steps_of_lines.Given as goal

abbrev pub invariant-loop-rest : goal.invariant-loop-rest
invariant-loop-rest l = record {
  told : steps_from l.fn.profile 1 (lines l.fn.text) ≡ behind l.steps.items (steps_from l.fn.profile l.number (lines l.rest));
  within : All IsWithinStep l.steps.items;
  counted : l.number + length l.rest ≤ length l.fn.text + 1;
}

abbrev pub decreases-loop-rest : goal.decreases-loop-rest
decreases-loop-rest l = length l.rest
