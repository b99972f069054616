use Rattle.std.proofs.Common.{◌≡◌, ◌≤◌, ◌+◌, ◌++◌, length, vec_len, vec_capacity}
use Rattle.std.specs.Vec.Iter.{drain_items}
use Rattle.sentinel_outbox.proofs.outbox.move_all.Given as goal

abbrev pub invariant-loop-output : goal.invariant-loop-output
invariant-loop-output l =
    record {
      next : (goal.iterator-loop-output).can_next l.output-iterator;
      finite : (goal.iterator-loop-output).is_finite l.output-iterator;
      items : l.to.items ++ drain_items l.output-iterator ≡ l.fn.to.items ++ l.fn.outputs.items;
      capacity : vec_capacity l.to ≡ vec_capacity l.fn.to;
      room : vec_len l.to + length (drain_items l.output-iterator) ≤ vec_capacity l.to;
    }
