-- A turn goes by what the rows of its state look at.
use Rattle.std.proofs.Common.{◌≡◌, ℕ, true, Option, Some, None, [], ◌∷◌, refl, ap}
use Rattle.std.specs.Prelude.{is_some}
use Rattle.ballot_law.specs.declared.addresses.Addr.{Addr}
use Rattle.failover_states.specs.declared.states.FailoverState.{FailoverState}
use Rattle.failover_states.specs.declared.states.FailoverState.TheVariants.{Idle, WaitStart, SelectReplica, SendPromotion, WaitPromotion, ReconfReplicas, UpdateConfig}
use Rattle.failover_states.specs.declared.states.Row.TheVariants.{ReplicaChosen, NoReplica}
use Rattle.failover_states.specs.Failovers.{Failover, ended}
use Rattle.failover_states.specs.Known.{Known}
use Rattle.failover_states.specs.Table.{row_if, chosen, first_that_fits, expiring, quieted, turn_in, turned}
use Rattle.sentinel_core.specs.Inputs.Rows.{looked_at}

chosen_looked : (epoch : ℕ) (best : Option (ℕ × Addr)) (f : Failover) (k : Known) → chosen epoch best f (looked_at (SelectReplica epoch) k) ≡ chosen epoch best f k
chosen_looked epoch None f k = refl
chosen_looked epoch (Some best) f k = refl

in_state : (state : FailoverState) (f : Failover) (k : Known) → turn_in state f (looked_at state k) ≡ turn_in state f k
in_state Idle f k = refl
in_state (WaitStart epoch) f k = refl
in_state (SelectReplica epoch) f k =
    ap (λ after. first_that_fits f None (row_if ReplicaChosen (is_some k.best) after ∷ row_if NoReplica true (ended f) ∷ [])) (chosen_looked epoch k.best f k)
in_state (SendPromotion epoch choice) f k = refl
in_state (WaitPromotion epoch choice former) f k = refl
in_state (ReconfReplicas epoch choice former) f k = refl
in_state (UpdateConfig epoch choice) f k = refl

pub turned_looked : (f : Failover) (k : Known) → turned f (looked_at f.state k) ≡ turned f k
turned_looked f k = in_state f.state (expiring f.state k.now (quieted f)) k
