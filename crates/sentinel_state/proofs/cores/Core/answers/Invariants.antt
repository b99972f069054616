use Rattle.std.proofs.Common.{◌≡◌, ◌≤◌}
use Rattle.ballot_law.specs.Counts.{count_below}
use Rattle.sentinel_rules.specs.Endings.{has_answered}
use Rattle.sentinel_state.proofs.cores.Core.answers.Given as goal

abbrev pub invariant-loop-place : goal.invariant-loop-place
invariant-loop-place l =
    record {
      few : l.count ≤ l.place;
      counted : l.count ≡ count_below (has_answered l.self l.m l.epoch) l.place;
    }
