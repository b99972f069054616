-- What is known of each plan that was read, and of each core on the way from its start.
use Rattle.std.specs.Prelude.{◌≡◌, ◌≢◌, ℕ, ◌<◌, ◌≤◌, Option, Some, None, length, IfSome}
use Rattle.ballot_law.specs.declared.cards.Kept.{Kept}
use Rattle.ballot_law.specs.Ballots.{card_of}
use Rattle.ballot_law.specs.VotesHeard.{kept_at}
use Rattle.failover_states.specs.declared.states.Choice.{Choice}
use Rattle.failover_states.specs.declared.states.FailoverState.{FailoverState}
use Rattle.failover_states.specs.declared.states.FailoverState.TheVariants.{Idle, WaitStart, SelectReplica, SendPromotion, WaitPromotion, ReconfReplicas, UpdateConfig}
use Rattle.failover_states.specs.Calls.{epoch_of}
use Rattle.sentinel_conf.specs.Facts.{IsSoundConf}
use Rattle.sentinel_conf.specs.Rewritten.{IsKeptPart}
use Rattle.sentinel_rules.specs.Plans.{Plan, me, group_size, master_count, nodes_of, addr_at}
use Rattle.sentinel_rules.specs.States.{Core, MasterState, master_of}

-- the conf was read, and the place is that of the conf's own run id
pub record IsSoundPlan (plan : Plan) : Type 0 where
  pub conf : IsSoundConf plan.conf
  pub place : plan.place < group_size plan
  pub own : me plan ≡ plan.conf.id

-- the replica that is to be promoted, until it is the configuration
abbrev pub awaited : FailoverState → Option Choice
awaited Idle = None
awaited (WaitStart epoch) = None
awaited (SelectReplica epoch) = None
awaited (SendPromotion epoch choice) = Some choice
awaited (WaitPromotion epoch choice former) = Some choice
awaited (ReconfReplicas epoch choice former) = None
awaited (UpdateConfig epoch choice) = None

-- it is a node of the master's list, and not that of the configuration
pub record IsAwaited (plan : Plan) (kept : Kept) (m : ℕ) (choice : Choice) : Type 0 where
  pub listed : choice.place < length (nodes_of plan m)
  pub addressed : choice.addr ≡ addr_at plan m choice.place
  pub other : choice.addr ≢ (card_of kept m).addr

-- of one master: a place for each Sentinel and each node, no vote heard from itself, a campaign of an epoch that has come, and a
-- choice that can become the configuration
pub record IsSoundMaster (plan : Plan) (kept : Kept) (m : ℕ) (master : MasterState) : Type 0 where
  pub heard : length master.heard ≡ group_size plan
  pub reports : length master.reports ≡ group_size plan
  pub nodes : length master.nodes ≡ length (nodes_of plan m)
  pub replicas : length master.failover.replicas ≡ length (nodes_of plan m)
  pub own : kept_at master.heard plan.place ≡ None
  pub epoch : IfSome (epoch_of master.failover.state) (λ epoch. epoch ≤ kept.current)
  pub choice : IfSome (awaited master.failover.state) (IsAwaited plan kept m)

-- what is kept fits the plan's file, and each master of the roster is sound
pub record IsSound (plan : Plan) (core : Core) : Type 0 where
  pub kept : IsKeptPart plan.conf core.kept
  pub masters : length core.masters ≡ master_count plan
  pub kept_masters : length core.kept.masters ≡ master_count plan
  pub peers : length core.peers ≡ group_size plan
  pub each : (m : ℕ) → m < master_count plan → IsSoundMaster plan core.kept m (master_of core m)
