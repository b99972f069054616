-- A node is in a state, or it isn't.
use Rattle.std.proofs.Common.{◌≡◌, ◌≢◌, ◌⊎◌, refl, inl, inr}
use Rattle.ballot_law.specs.Worlds.{State, Ready, Pending, Stored, Halted, Stopped}

pub ready_or_not : (state : State) → (state ≡ Ready) ⊎ (state ≢ Ready)
ready_or_not Ready = inl refl
ready_or_not Pending = inr (λ e. cc)
ready_or_not Stored = inr (λ e. cc)
ready_or_not Halted = inr (λ e. cc)
ready_or_not Stopped = inr (λ e. cc)

pub pending_or_not : (state : State) → (state ≡ Pending) ⊎ (state ≢ Pending)
pending_or_not Ready = inr (λ e. cc)
pending_or_not Pending = inl refl
pending_or_not Stored = inr (λ e. cc)
pending_or_not Halted = inr (λ e. cc)
pending_or_not Stopped = inr (λ e. cc)

pub stored_or_not : (state : State) → (state ≡ Stored) ⊎ (state ≢ Stored)
stored_or_not Ready = inr (λ e. cc)
stored_or_not Pending = inr (λ e. cc)
stored_or_not Stored = inl refl
stored_or_not Halted = inr (λ e. cc)
stored_or_not Stopped = inr (λ e. cc)

pub stopped_or_not : (state : State) → (state ≡ Stopped) ⊎ (state ≢ Stopped)
stopped_or_not Ready = inr (λ e. cc)
stopped_or_not Pending = inr (λ e. cc)
stopped_or_not Stored = inr (λ e. cc)
stopped_or_not Halted = inr (λ e. cc)
stopped_or_not Stopped = inl refl
