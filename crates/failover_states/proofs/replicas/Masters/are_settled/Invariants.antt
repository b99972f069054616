use Rattle.std.proofs.Common.{◌≡◌, drop}
use Rattle.failover_states.specs.Known.{known}
use Rattle.failover_states.specs.Replicas.{all_from}
use Rattle.failover_states.specs.Table.{is_settled}
use Rattle.failover_states.proofs.replicas.Masters.are_settled.Given as goal

abbrev pub invariant-loop-place : goal.invariant-loop-place
invariant-loop-place l =
    let settled = is_settled l.self.choice l.self.former (known l.facts) in
    all_from settled l.place (drop l.place l.replicas) ≡ all_from settled 0 l.replicas
