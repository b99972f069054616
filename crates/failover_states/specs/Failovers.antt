-- What is kept of the failover of one master.
use Rattle.std.specs.Prelude.{ℕ, Option, List, map}
use Rattle.failover_states.specs.declared.states.FailoverState.{FailoverState}
use Rattle.failover_states.specs.declared.states.FailoverState.TheVariants.{Idle}
use Rattle.failover_states.specs.declared.replicas.Replica.{Replica}
use Rattle.failover_states.specs.Replicas.{forgotten}

-- entered: when the state was entered. moment: when the next promotion counts as seen
pub record Failover : Type 0 where
  pub state : FailoverState
  pub entered : ℕ
  pub last_start : Option ℕ
  pub replicas : List Replica
  pub moment : ℕ

abbrev pub entering : FailoverState → (now : ℕ) → Failover → Failover
entering state now f = record f { state = state; entered = now }

-- what was sent is forgotten
abbrev pub fresh : Failover → Failover
fresh f = record f { replicas = map forgotten f.replicas }

-- no failover; the moment of the last start stays
abbrev pub ended : Failover → Failover
ended f = record (fresh f) { state = Idle }
