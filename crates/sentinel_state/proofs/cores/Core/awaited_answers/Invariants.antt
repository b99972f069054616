use Rattle.std.proofs.Common.{◌≡◌, ◌≤◌}
use Rattle.ballot_law.specs.Clocks.{clock}
use Rattle.ballot_law.specs.Counts.{count_below}
use Rattle.sentinel_rules.specs.Endings.{may_answer}
use Rattle.sentinel_state.proofs.cores.Core.awaited_answers.Given as goal

abbrev pub invariant-loop-place : goal.invariant-loop-place
invariant-loop-place l =
    record {
      few : l.count ≤ l.place;
      counted : l.count ≡ count_below (may_answer l.plan l.self l.m (clock l.now) l.epoch) l.place;
    }
