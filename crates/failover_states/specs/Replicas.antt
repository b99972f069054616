-- What a failover keeps of each node of the master, and whom it tells to follow the new one.
use Rattle.std.specs.Prelude.{ℕ, ◌+◌, Bool, true, false, ◌&&◌, nat_lt, List, [], ◌∷◌, slice_index_or, if◌then◌else◌}
use Rattle.ballot_law.specs.Clocks.{age}
use Rattle.ballot_law.specs.Counts.{count_below}
use Rattle.failover_states.specs.declared.periods.TheConstants.{ORDER_MS}
use Rattle.failover_states.specs.declared.replicas.Progress.{Progress}
use Rattle.failover_states.specs.declared.replicas.Progress.TheVariants.{Unsent, Sent, Done}
use Rattle.failover_states.specs.declared.replicas.Replica.{Replica}

abbrev pub untouched : Replica
untouched = record { progress = Unsent; ordered = false }

abbrev pub replica_at : List Replica → (place : ℕ) → Replica
replica_at replicas place = slice_index_or replicas place untouched

-- the orders of the turn before are over
abbrev pub unordered : Replica → Replica
unordered replica = record replica { ordered = false }

abbrev pub forgotten : Replica → Replica
forgotten replica = record replica { progress = Unsent }

abbrev pub expired_progress : (now : ℕ) → Progress → Progress
expired_progress now Unsent = Unsent
expired_progress now (Sent at) = if nat_lt ORDER_MS (age at now) then Done else Sent at
expired_progress now Done = Done

-- one that was sent to more than 10,000 ms ago is done
abbrev pub expired : (now : ℕ) → Replica → Replica
expired now replica = record replica { progress = expired_progress now replica.progress }

abbrev pub is_unsent : Progress → Bool
is_unsent Unsent = true
is_unsent (Sent at) = false
is_unsent Done = false

-- sent to and not done
abbrev pub is_busy : Progress → Bool
is_busy Unsent = false
is_busy (Sent at) = true
is_busy Done = false

abbrev pub is_done : Progress → Bool
is_done Unsent = false
is_done (Sent at) = false
is_done Done = true

-- one that was sent to says that it follows the new master
abbrev pub followed : Replica → Replica
followed replica = if is_unsent replica.progress then replica else record replica { progress = Done }

abbrev pub sent_now : (now : ℕ) → Replica
sent_now now = record { progress = Sent now; ordered = true }

-- the replicas, from this place on, each changed by its place
abbrev pub by_place : (ℕ → Replica → Replica) → (place : ℕ) → List Replica → List Replica
by_place change place [] = []
by_place change place (replica ∷ replicas) = change place replica ∷ by_place change (place + 1) replicas

-- the node at this place may be told and was not sent to
unfoldable pub is_due : (can : ℕ → Bool) → List Replica → (place : ℕ) → Bool
is_due can replicas place = is_unsent (replica_at replicas place).progress && can place

-- those of lower addresses that are due, with those that are busy, are fewer than may be sent to at once
unfoldable pub is_next : (can : ℕ → Bool) → (busy limit : ℕ) → List Replica → (place : ℕ) → Bool
is_next can busy limit replicas place =
    is_due can replicas place && nat_lt (busy + count_below (is_due can replicas) place) limit

-- each at which the test holds is told now
unfoldable pub told : (test : ℕ → Bool) → (now : ℕ) → List Replica → List Replica
told test now replicas = by_place (λ place replica. if test place then sent_now now else replica) 0 replicas

-- each place from this one on passes
abbrev pub all_from : (ℕ → Replica → Bool) → (place : ℕ) → List Replica → Bool
all_from passes place [] = true
all_from passes place (replica ∷ replicas) = passes place replica && all_from passes (place + 1) replicas
