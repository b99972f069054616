use Rattle.std.proofs.Common.{◌≡◌, ◌≤◌, map, vec_len, vec_capacity}
use Rattle.ballot_law.specs.declared.messages.TheConstants.{SHOWN_MAX}
use Rattle.sentinel_rules.specs.Parts.{shown_of}
use Rattle.sentinel_rules.specs.Answers.{numbers_from}
use Rattle.sentinel_core.proofs.inputs.rows.shown_masters.Given as goal

abbrev pub invariant-loop-m : goal.invariant-loop-m
invariant-loop-m l =
    record {
      value : l.shown.items ≡ map (shown_of l.core) (numbers_from 0 l.m);
      len : vec_len l.shown ≡ l.m;
      room : SHOWN_MAX ≤ vec_capacity l.shown;
    }
