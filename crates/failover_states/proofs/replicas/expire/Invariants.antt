use Rattle.std.proofs.Common.{◌≡◌, ◌++◌, map, take, drop}
use Rattle.failover_states.specs.Replicas.{expired}
use Rattle.failover_states.proofs.replicas.expire.Given as goal

abbrev pub invariant-loop-replica : goal.invariant-loop-replica
invariant-loop-replica l = l.replicas ≡ map (expired l.now) (take l.replica-index l.initial.replicas) ++ drop l.replica-index l.initial.replicas
