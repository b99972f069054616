use Rattle.std.proofs.Common.{◌≡◌, ◌++◌, map, take, drop}
use Rattle.failover_states.specs.Replicas.{forgotten}
use Rattle.failover_states.proofs.replicas.forget.Given as goal

abbrev pub invariant-loop-replica : goal.invariant-loop-replica
invariant-loop-replica l = l.replicas ≡ map forgotten (take l.replica-index l.initial.replicas) ++ drop l.replica-index l.initial.replicas
