use Rattle.std.proofs.Common.{◌≡◌, ◌≤◌}
use Rattle.ballot_law.specs.Clocks.{clock}
use Rattle.ballot_law.specs.Counts.{count_below}
use Rattle.sentinel_rules.specs.Answers.{is_usable}
use Rattle.sentinel_core.proofs.inputs.rows.usable_count.Given as goal

abbrev pub invariant-loop-place : goal.invariant-loop-place
invariant-loop-place l =
    record {
      few : l.count ≤ l.place;
      counted : l.count ≡ count_below (is_usable l.plan l.core (clock l.now)) l.place;
    }
