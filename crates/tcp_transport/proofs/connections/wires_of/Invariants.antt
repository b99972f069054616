use Rattle.std.proofs.Common.{◌≡◌, take}
use Rattle.tcp_transport.specs.declared.connections.PlannedWire.{PlannedWire}
use Rattle.tcp_transport.specs.Places.{targets_of}
use Rattle.tcp_transport.proofs.connections.wires_of.Given as goal

-- those that were made are as far as the plans are read
abbrev pub invariant-loop-plan : goal.invariant-loop-plan
invariant-loop-plan g l =
    targets_of (λ wire. wire.link.target) l.wires.items ≡ targets_of (λ (plan : PlannedWire). plan.target) (take l.plan-index l.fn.plans)
