-- Orders given out one after another, as the loop over the places gives them.
use Rattle.std.specs.Prelude.{ℕ, zero, suc, ◌+◌, Bool, ◌&&◌, List, [], ◌∷◌, if◌then◌else◌}
use Rattle.failover_states.specs.declared.replicas.Replica.{Replica}
use Rattle.failover_states.specs.Replicas.{is_unsent, sent_now}

-- from a place on: of those that can be told and weren't, so many are
abbrev pub ordered_from : (can : ℕ → Bool) → (now place free : ℕ) → List Replica → List Replica
ordered_from can now place free [] = []
ordered_from can now place zero (replica ∷ replicas) = replica ∷ replicas
ordered_from can now place (suc free) (replica ∷ replicas) =
    if is_unsent replica.progress && can place then sent_now now ∷ ordered_from can now (place + 1) free replicas
    else replica ∷ ordered_from can now (place + 1) (suc free) replicas
