use Rattle.std.proofs.Common.{sym, subst}
use Rattle.channel_transport.specs.declared.node_orders.Action.{Action}
use Rattle.channel_transport.specs.DataNodes.{ObeysAt}
use Rattle.channel_transport.proofs.all_nodes.DataNodes.obey.Goals as goal

-- the node of this number alone stops
pub returns-in-Stop : goal.returns-in-Stop
returns-in-Stop g c =
    subst (λ (a : Action). ObeysAt c.args.order.number a c.args.self.now.nodes.items c.stop.new.self.nodes.items) (sym c.in-Stop.is) c.stop.ensures
