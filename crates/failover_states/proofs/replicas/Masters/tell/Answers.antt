use Rattle.std.proofs.Common.{◌∙◌, ◌<◌, length, arith}
use Rattle.failover_states.specs.Known.{known}
use Rattle.failover_states.specs.Table.{can_be_told}
use Rattle.failover_states.proofs.Places.{order_yes, order_no}
use Rattle.failover_states.proofs.replicas.Masters.tell.Goals.{then-takes_order, else-takes_order}
use Rattle.failover_states.proofs.replicas.Masters.tell.Goals as goal

pub loop-place-preserved : goal.loop-place-preserved
loop-place-preserved c =
    let can = can_be_told c.args.self.choice c.args.self.former (known c.args.facts.now) in
    let now = c.clock_of-now.result in
    let place = c.loop-place.place in
    let left = c.loop-place.left in
    let held = c.loop-place.replicas in
    let lt : place < length held = omega arith in
    elim c.if-takes_order.branch [
      | then-takes_order w ↦
          let yes = c.takes_order.ensures.yes w.if-takes_order.true in
          rw (w.replicas-is, w.left-is) (order_yes can now place left held lt yes.0 yes.1 yes.2 ∙ c.loop-place.invariant)
      | else-takes_order w ↦
          rw (w.replicas-is, w.left-is) (order_no can now place left held lt (c.takes_order.ensures.no w.if-takes_order.false) ∙ c.loop-place.invariant)
    ]
