use Rattle.std.proofs.Common.{◌≡◌, ◌≤◌, ◌+◌, ◌++◌, length, vec_len, vec_capacity}
use Rattle.std.specs.Vec.Iter.{drain_items}
use Rattle.ballot_law.specs.Messages.{sent}
use Rattle.fault_world.proofs.sending.send_all.Given as goal

abbrev pub invariant-loop-output : goal.invariant-loop-output
invariant-loop-output l =
    record {
      next : (goal.iterator-loop-output).can_next l.output-iterator;
      finite : (goal.iterator-loop-output).is_finite l.output-iterator;
      items : l.messages.items ++ sent (drain_items l.output-iterator) ≡ l.fn.messages.items ++ sent l.fn.outputs.items;
      room : vec_len l.messages + length (drain_items l.output-iterator) ≤ vec_capacity l.messages;
    }
