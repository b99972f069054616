use Rattle.std.proofs.Common.{rules, sym, ap, ◌∙◌}
use Rattle.std.specs.Vec.Iter.{drain_items}
use Rattle.boxed_nodes.specs.Moves.{IsFresh}
use Rattle.fault_world.specs.NewMembers.{IsNewMember}
use Rattle.fault_world.proofs.Loops.{seated_more, first_waiting}
use Rattle.fault_world.proofs.starts.seat.Goals as goal

pub new-requires : goal.new-requires
new-requires g c =
    first_waiting (drain_items c.loop-node.node-iterator) (drain_items c.next.new.self) c.in-Some.node (search rules)
    (λ b. IsFresh ((goal.Node-dyn g (b.vtable, b.value)).is_known b.value) ((goal.Node-dyn g (b.vtable, b.value)).shows b.value)) c.loop-node.invariant.seated.waiting

pub loop-node-preserved : goal.loop-node-preserved
loop-node-preserved g c =
    record {
      next = tt;
      finite = tt;
      room = search rules;
      seated =
          seated_more c.loop-node.members.items c.push_reserved.new.self.items (drain_items c.loop-node.node-iterator) (drain_items c.next.new.self) c.args.nodes.items
          c.new.result c.in-Some.node c.push_reserved.ensures.items (search rules)
          (λ m. m.node) (λ m. IsNewMember m.name ((goal.Node-dyn g (m.node.vtable, m.node.value)).name m.node.value) m.outbox.held m.stopped)
          (λ b. IsFresh ((goal.Node-dyn g (b.vtable, b.value)).is_known b.value) ((goal.Node-dyn g (b.vtable, b.value)).shows b.value))
          c.new.ensures.node
          (record {
            goes_by = ap (λ b. (goal.Node-dyn g (b.vtable, b.value)).name b.value) c.new.ensures.node ∙ sym c.new.ensures.name;
            holds = c.new.ensures.held;
            runs = c.new.ensures.stopped;
          })
          c.loop-node.invariant.seated;
    }
