use Rattle.std.proofs.Common.{◌≡◌, ◌++◌, take, drop}
use Rattle.failover_states.specs.Known.{known}
use Rattle.failover_states.specs.Orders.{ordered_from}
use Rattle.failover_states.specs.Table.{can_be_told}
use Rattle.failover_states.proofs.replicas.Masters.tell.Given as goal

abbrev pub invariant-loop-place : goal.invariant-loop-place
invariant-loop-place l =
    let can = can_be_told l.self.choice l.self.former (known l.facts) in
    take l.place l.replicas ++ ordered_from can l.now l.place l.left (drop l.place l.replicas)
    ≡ ordered_from can l.now 0 l.free l.initial.replicas
