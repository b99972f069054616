use Rattle.std.proofs.Common.{None}
use Rattle.tcp_transport.specs.declared.connections.PlannedWire.{PlannedWire}
use Rattle.tcp_transport.proofs.Places.{made_more, reached_here}
use Rattle.tcp_transport.proofs.connections.wires_of.Goals as goal

pub wire_of-requires : goal.wire_of-requires
wire_of-requires g c =
    reached_here (λ (plan : PlannedWire). plan.target) g.J.Which.reaches c.args.plans.now c.loop-plan.plan-index None c.loop-plan-test.true c.requires

pub loop-plan-preserved : goal.loop-plan-preserved
loop-plan-preserved g c =
    made_more (λ (plan : PlannedWire). plan.target) (λ wire. wire.link.target) c.args.plans.now c.loop-plan.plan-index None c.loop-plan.wires.items c.push.new.self.items
    c.wire_of.result c.loop-plan-test.true c.in_ok-push.ensures.items c.loop-plan.invariant c.wire_of.ensures
