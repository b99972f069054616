use Rattle.std.proofs.Common.{◌≡◌, length}
use Rattle.tcp_transport.specs.declared.connections.PlannedWire.{PlannedWire}
use Rattle.tcp_transport.specs.Places.{AreFrom, targets_of}
use Rattle.tcp_transport.proofs.connections.plans_of.Given as goal

-- those of the places so far
abbrev pub invariant-loop-place : goal.invariant-loop-place
invariant-loop-place l =
    (length l.plans.items ≡ l.place) × AreFrom l.fn.conf.roster l.fn.own 0 (targets_of (λ (plan : PlannedWire). plan.target) l.plans.items)
