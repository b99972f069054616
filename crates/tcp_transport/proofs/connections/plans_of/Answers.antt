use Rattle.tcp_transport.specs.declared.connections.PlannedWire.{PlannedWire}
use Rattle.tcp_transport.proofs.Places.{planned_more}
use Rattle.tcp_transport.proofs.connections.plans_of.Goals as goal

pub loop-place-preserved : goal.loop-place-preserved
loop-place-preserved c =
    planned_more (λ (plan : PlannedWire). plan.target) c.args.conf.now.roster c.args.own c.loop-place.place c.loop-place.plans.items c.push.new.self.items c.plan_at.result
    c.in_ok-push.ensures.items c.loop-place.invariant c.plan_at.ensures
