-- A failover keeps its places few, whatever is done to it.
use Rattle.std.proofs.Common.{◌≡◌, ℕ, ◌≤◌, Bool, true, false, cond, List, [], ◌∷◌, length, map, Option, Some, None, ap, sym, subst, arith}
use Rattle.std.specs.Prelude.{IfSome, unwrap_or}
use Rattle.std.proofs.lemmas.List.{length-map}
use Rattle.ballot_law.specs.declared.rosters.TheConstants.{NODES_MAX}
use Rattle.ballot_law.specs.declared.addresses.Addr.{Addr}
use Rattle.ballot_law.specs.declared.addresses.RunId.{RunId}
use Rattle.failover_states.specs.declared.states.FailoverState.{FailoverState}
use Rattle.failover_states.specs.declared.states.FailoverState.TheVariants.{Idle, WaitStart, SelectReplica, SendPromotion, WaitPromotion, ReconfReplicas, UpdateConfig}
use Rattle.failover_states.specs.declared.states.Row.{Row}
use Rattle.failover_states.specs.declared.replicas.Replica.{Replica}
use Rattle.failover_states.specs.Calls.{choice_of, recalled, recalled_to}
use Rattle.failover_states.specs.Failovers.{Failover, entering, ended}
use Rattle.failover_states.specs.Known.{Known}
use Rattle.failover_states.specs.Replicas.{told, forgotten, unordered, expired, is_due, is_next}
use Rattle.failover_states.specs.Table.{TableRow, Turn, table, first_that_fits, vote_of, turn_in, turned, quieted, expiring, chosen, can_be_told, busy_count}
use Rattle.sentinel_rules.proofs.Turns.{length-told}
use Rattle.sentinel_state.specs.Places.{HasFewPlaces}

mapped : (change : Replica → Replica) (xs : List Replica) → length xs ≤ NODES_MAX → length (map change xs) ≤ NODES_MAX
mapped change xs h = omega (arith, h, length-map xs change)

pub few_ended : (f : Failover) → HasFewPlaces f → HasFewPlaces (ended f)
few_ended f h = (mapped forgotten f.replicas h.0, omega arith)

pub few_recalled : (now : ℕ) (f : Failover) → HasFewPlaces f → HasFewPlaces (recalled now f)
few_recalled now f h = in_state f.state h.1
  where
    in_state : (state : FailoverState) → unwrap_or (choice_of state) 0 ≤ NODES_MAX → HasFewPlaces (entering (recalled_to state) now f)
    in_state Idle c = (h.0, c)
    in_state (WaitStart epoch) c = (h.0, c)
    in_state (SelectReplica epoch) c = (h.0, c)
    in_state (SendPromotion epoch choice) c = (h.0, c)
    in_state (WaitPromotion epoch choice former) c = (h.0, c)
    in_state (ReconfReplicas epoch choice former) c = (h.0, c)
    in_state (UpdateConfig epoch choice) c = (h.0, c)

-- each row leaves few places
abbrev LeaveFew : List TableRow → Type 0
LeaveFew [] = Unit {0}
LeaveFew (row ∷ rows) = HasFewPlaces row.leaves × LeaveFew rows

either : (b : Bool) (t u : Turn) → HasFewPlaces t.failover → HasFewPlaces u.failover → HasFewPlaces (cond b t u).failover
either true t u h k = h
either false t u h k = k

first_few : (f : Failover) (vote : Option RunId) (rows : List TableRow) → HasFewPlaces f → LeaveFew rows → HasFewPlaces (first_that_fits f vote rows).failover
first_few f vote [] h r = h
first_few f vote (row ∷ rows) h r =
    either row.fits (record { failover = row.leaves; row = Some row.row; vote = vote }) (first_that_fits f vote rows) r.0 (first_few f vote rows h r.1)

few_chosen : (epoch : ℕ) (best : Option (ℕ × Addr)) (f : Failover) (k : Known) → IfSome best (λ b. b.0 ≤ NODES_MAX) → HasFewPlaces f → HasFewPlaces (chosen epoch best f k)
few_chosen epoch None f k b h = h
few_chosen epoch (Some best) f k b h = (h.0, b)

few_in : (state : FailoverState) (f : Failover) (k : Known) → IfSome k.best (λ b. b.0 ≤ NODES_MAX) → unwrap_or (choice_of state) 0 ≤ NODES_MAX → HasFewPlaces f →
    HasFewPlaces (turn_in state f k).failover
few_in Idle f k b c h = first_few f (vote_of Idle k) (table Idle f k) h ((h.0, omega arith), tt)
few_in (WaitStart epoch) f k b c h =
    first_few f (vote_of (WaitStart epoch) k) (table (WaitStart epoch) f k) h ((h.0, omega arith), (few_ended f h, (h, tt)))
few_in (SelectReplica epoch) f k b c h =
    first_few f (vote_of (SelectReplica epoch) k) (table (SelectReplica epoch) f k) h (few_chosen epoch k.best f k b h, (few_ended f h, tt))
few_in (SendPromotion epoch choice) f k b c h =
    first_few f (vote_of (SendPromotion epoch choice) k) (table (SendPromotion epoch choice) f k) h (few_ended f h, (h, ((h.0, c), tt)))
few_in (WaitPromotion epoch choice former) f k b c h =
    first_few f (vote_of (WaitPromotion epoch choice former) k) (table (WaitPromotion epoch choice former) f k) h (few_ended f h, (h, tt))
few_in (ReconfReplicas epoch choice former) f k b c h =
    let can = can_be_told choice former k in
    let all : length (told (is_due can f.replicas) k.now f.replicas) ≤ NODES_MAX = omega (arith, h.0, length-told (is_due can f.replicas) k.now f.replicas) in
    let next = is_next can (busy_count f.replicas) k.parallel_syncs f.replicas in
    let some : length (told next k.now f.replicas) ≤ NODES_MAX = omega (arith, h.0, length-told next k.now f.replicas) in
    first_few f (vote_of (ReconfReplicas epoch choice former) k) (table (ReconfReplicas epoch choice former) f k) h ((all, c), ((h.0, c), ((some, h.1), tt)))
few_in (UpdateConfig epoch choice) f k b c h =
    first_few f (vote_of (UpdateConfig epoch choice) k) (table (UpdateConfig epoch choice) f k) h (few_ended f h, tt)

few_expiring : (state : FailoverState) (now : ℕ) (f : Failover) → HasFewPlaces f → HasFewPlaces (expiring state now f)
few_expiring Idle now f h = h
few_expiring (WaitStart epoch) now f h = h
few_expiring (SelectReplica epoch) now f h = h
few_expiring (SendPromotion epoch choice) now f h = h
few_expiring (WaitPromotion epoch choice former) now f h = h
few_expiring (ReconfReplicas epoch choice former) now f h = (mapped (expired now) f.replicas h.0, h.1)
few_expiring (UpdateConfig epoch choice) now f h = h

few_turned : (f : Failover) (k : Known) → IfSome k.best (λ b. b.0 ≤ NODES_MAX) → HasFewPlaces f → HasFewPlaces (turned f k).failover
few_turned f k b h =
    few_in f.state (expiring f.state k.now (quieted f)) k b h.1 (few_expiring f.state k.now (quieted f) (mapped unordered f.replicas h.0, h.1))

pub few_after : (f after : Failover) (k : Known) (row : Option Row) (vote : Option RunId) → record { failover = after; row = row; vote = vote } ≡ turned f k
    → IfSome k.best (λ b. b.0 ≤ NODES_MAX) → HasFewPlaces f → HasFewPlaces after
few_after f after k row vote e b h =
    let same : (turned f k).failover ≡ after = sym (ap (λ (t : Turn). t.failover) e) in
    subst (λ (x : Failover). HasFewPlaces x) same (few_turned f k b h)
