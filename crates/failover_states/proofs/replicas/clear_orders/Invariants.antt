use Rattle.std.proofs.Common.{◌≡◌, ◌++◌, map, take, drop}
use Rattle.failover_states.specs.Replicas.{unordered}
use Rattle.failover_states.proofs.replicas.clear_orders.Given as goal

abbrev pub invariant-loop-replica : goal.invariant-loop-replica
invariant-loop-replica l = l.replicas ≡ map unordered (take l.replica-index l.initial.replicas) ++ drop l.replica-index l.initial.replicas
