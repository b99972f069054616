use Rattle.std.proofs.Common.{◌≡◌, ◌≤◌, vec_capacity}
use Rattle.sentinel_outbox.proofs.outbox.empty.Given as goal

abbrev pub invariant-loop-output : goal.invariant-loop-output
invariant-loop-output l =
    record {
      capacity : vec_capacity l.outputs ≡ vec_capacity l.fn.outputs;
      text : l.fn.spare.text ≤ l.spare.text;
      list : l.fn.spare.list ≤ l.spare.list;
    }

abbrev pub decreases-loop-output : goal.decreases-loop-output
decreases-loop-output l = goal.left-loop-output l
