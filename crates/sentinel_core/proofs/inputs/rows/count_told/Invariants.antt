use Rattle.std.proofs.Common.{◌≡◌, ◌≤◌, length}
use Rattle.sentinel_rules.specs.Rows.{is_left_out, places_told}
use Rattle.sentinel_core.proofs.inputs.rows.count_told.Given as goal

abbrev pub invariant-loop-k : goal.invariant-loop-k
invariant-loop-k l =
    record {
      few : l.count ≤ l.k;
      counted : l.count ≡ length (places_told (is_left_out l.plan l.core l.m) 0 l.k);
    }
