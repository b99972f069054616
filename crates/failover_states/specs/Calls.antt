-- What news from the nodes does to a failover, and what is read of one.
use Rattle.std.specs.Prelude.{ℕ, Option, Some, None, slice_set}
use Rattle.ballot_law.specs.declared.cards.Card.{Card}
use Rattle.failover_states.specs.declared.states.FailoverState.{FailoverState}
use Rattle.failover_states.specs.declared.states.FailoverState.TheVariants.{Idle, WaitStart, SelectReplica, SendPromotion, WaitPromotion, ReconfReplicas, UpdateConfig}
use Rattle.failover_states.specs.Failovers.{Failover, entering, fresh}
use Rattle.failover_states.specs.Replicas.{followed, replica_at}

-- the epoch of the campaign
abbrev pub epoch_of : FailoverState → Option ℕ
epoch_of Idle = None
epoch_of (WaitStart epoch) = Some epoch
epoch_of (SelectReplica epoch) = Some epoch
epoch_of (SendPromotion epoch choice) = Some epoch
epoch_of (WaitPromotion epoch choice former) = Some epoch
epoch_of (ReconfReplicas epoch choice former) = Some epoch
epoch_of (UpdateConfig epoch choice) = Some epoch

-- the place of the chosen replica
abbrev pub choice_of : FailoverState → Option ℕ
choice_of Idle = None
choice_of (WaitStart epoch) = None
choice_of (SelectReplica epoch) = None
choice_of (SendPromotion epoch choice) = Some choice.place
choice_of (WaitPromotion epoch choice former) = Some choice.place
choice_of (ReconfReplicas epoch choice former) = Some choice.place
choice_of (UpdateConfig epoch choice) = Some choice.place

-- while its promotion is awaited the choice says that it is a master: the configuration is the campaign's epoch and the choice
abbrev pub promoted_card : FailoverState → Option Card
promoted_card (WaitPromotion epoch choice former) = Some (record { epoch = epoch; addr = choice.addr })
promoted_card _ = None

-- a choice that is awaited is to be told once more
abbrev pub recalled_to : FailoverState → FailoverState
recalled_to Idle = Idle
recalled_to (WaitStart epoch) = WaitStart epoch
recalled_to (SelectReplica epoch) = SelectReplica epoch
recalled_to (SendPromotion epoch choice) = SendPromotion epoch choice
recalled_to (WaitPromotion epoch choice former) = SendPromotion epoch choice
recalled_to (ReconfReplicas epoch choice former) = ReconfReplicas epoch choice former
recalled_to (UpdateConfig epoch choice) = UpdateConfig epoch choice

abbrev pub recalled : (now : ℕ) → Failover → Failover
recalled now f = entering (recalled_to f.state) now f

-- and the other replicas are to follow it; elsewhere nothing changes
abbrev pub promoted : FailoverState → Failover → Failover
promoted (WaitPromotion epoch choice former) f = entering (ReconfReplicas epoch choice former) f.moment (fresh f)
promoted _ f = f

-- while replicas are reconfigured one that was sent to follows the new master; elsewhere nothing changes
abbrev pub reconfigured : FailoverState → Failover → (place : ℕ) → Failover
reconfigured (ReconfReplicas epoch choice former) f place =
    record f { replicas = slice_set f.replicas place (followed (replica_at f.replicas place)) }
reconfigured _ f place = f
