use Rattle.std.proofs.Common.{◌≤◌, ◌+◌, length, vec_len, vec_capacity}
use Rattle.std.specs.Vec.Iter.{drain_items}
use Rattle.boxed_nodes.specs.Moves.{IsFresh}
use Rattle.fault_world.specs.NewMembers.{IsNewMember}
use Rattle.fault_world.proofs.Searching.{Seated}
use Rattle.fault_world.proofs.starts.seat.Given as goal

abbrev pub invariant-loop-node : goal.invariant-loop-node
invariant-loop-node g l =
    record {
      next : (goal.iterator-loop-node g).can_next l.node-iterator;
      finite : (goal.iterator-loop-node g).is_finite l.node-iterator;
      room : vec_len l.members + length (drain_items l.node-iterator) ≤ vec_capacity l.members;
      seated : Seated l.members.items (drain_items l.node-iterator) l.fn.nodes.items (λ m. m.node)
          (λ m. IsNewMember m.name ((goal.Node-dyn g (m.node.vtable, m.node.value)).name m.node.value) m.outbox.held m.stopped)
          (λ b. IsFresh ((goal.Node-dyn g (b.vtable, b.value)).is_known b.value) ((goal.Node-dyn g (b.vtable, b.value)).shows b.value));
    }
