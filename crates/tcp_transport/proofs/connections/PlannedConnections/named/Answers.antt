use Rattle.std.proofs.Common.{subst, sym, List, Option}
use Rattle.std.specs.List.{AllByRecursion}
use Rattle.tcp_transport.specs.Places.{IsReached, targets_of}
use Rattle.tcp_transport.specs.declared.connections.PlannedWire.{PlannedWire}
use Rattle.tcp_transport.proofs.Places.{all_reached}
use Rattle.tcp_transport.proofs.connections.PlannedConnections.named.Goals as goal

-- each is to a node of the roster, so a connection may be to it
pub wires_of-requires : goal.wires_of-requires
wires_of-requires g c =
    subst (λ (plans : List (Option PlannedWire)). AllByRecursion (IsReached g.J.Which.reaches) (targets_of (λ (plan : PlannedWire). plan.target) plans))
    (sym c.as_slice-2.ensures.value)
    (all_reached c.args.self.roster c.args.self.own g.J.Which.reaches (targets_of (λ (plan : PlannedWire). plan.target) c.args.self.plans.items) c.requires.reaches
    c.args.self.reach)
