-- The failover table: the rows of each state in their order. A turn takes the first that fits.
use Rattle.std.specs.Prelude.{ℕ, ◌+◌, ◌*◌, ◌%◌, min, Bool, true, ◌&&◌, ◌||◌, not, nat_lt, nat_le, ◌==◌, Option, Some, None, is_some, List, [], ◌∷◌, map, count_by, if◌then◌else◌}
use Rattle.ballot_law.specs.declared.addresses.Addr.{Addr}
use Rattle.ballot_law.specs.declared.addresses.RunId.{RunId}
use Rattle.ballot_law.specs.Clocks.{age}
use Rattle.vote_book.specs.Elections.{can_open, next_epoch}
use Rattle.failover_states.specs.declared.periods.TheConstants.{ELECTION_MS, SPREAD_MS}
use Rattle.failover_states.specs.declared.states.Choice.{Choice}
use Rattle.failover_states.specs.declared.states.FailoverState.{FailoverState}
use Rattle.failover_states.specs.declared.states.FailoverState.TheVariants.{Idle, WaitStart, SelectReplica, SendPromotion, WaitPromotion, ReconfReplicas, UpdateConfig}
use Rattle.failover_states.specs.declared.states.Row.{Row}
use Rattle.failover_states.specs.declared.states.Row.TheVariants.{StartFailover, Elected, ElectionTimeout, AwaitVotes, ReplicaChosen, NoReplica, ChoiceTimeout, AwaitChoice, Promote, PromotionTimeout, AwaitPromotion, ReconfTimeout, ReconfDone, Reconfigure, ConfigUpdated}
use Rattle.failover_states.specs.declared.replicas.Replica.{Replica}
use Rattle.failover_states.specs.Elections.{book_in, vote_in, is_elected}
use Rattle.failover_states.specs.Failovers.{Failover, entering, ended}
use Rattle.failover_states.specs.Known.{Known, is_down}
use Rattle.failover_states.specs.Replicas.{unordered, expired, is_busy, is_done, is_due, is_next, told, all_from}

-- a row: its name, whether it fits, and the failover that it leaves
pub record TableRow : Type 0 where
  pub row : Row
  pub fits : Bool
  pub leaves : Failover

abbrev pub row_if : Row → (fits : Bool) → (leaves : Failover) → TableRow
row_if row fits leaves = record { row = row; fits = fits; leaves = leaves }

-- the state was entered longer ago than that
abbrev pub is_over : (bound : ℕ) → Failover → Known → Bool
is_over bound f k = nat_lt bound (age f.entered k.now)

abbrev pub is_long_ago : Option ℕ → (bound now : ℕ) → Bool
is_long_ago None bound now = true
is_long_ago (Some start) bound now = nat_le bound (age start now)

-- the last start is two timeouts ago, and an epoch is left
abbrev pub may_start : Failover → Known → Bool
may_start f k = k.odown && is_long_ago f.last_start (2 * k.timeout) k.now && can_open (book_in k)

-- a random part of a second keeps Sentinels from starting together again
abbrev pub started : Failover → Known → Failover
started f k = entering (WaitStart (next_epoch (book_in k))) k.now (record f { last_start = Some (k.now + k.random % SPREAD_MS) })

abbrev pub chosen : (epoch : ℕ) → Option (ℕ × Addr) → Failover → Known → Failover
chosen epoch None f k = f
chosen epoch (Some best) f k = entering (SendPromotion epoch (record { place = best.0; addr = best.1 })) k.now f

-- the master's nodes but the new master and the former one
abbrev pub is_replica : Choice → (former place : ℕ) → Bool
is_replica choice former place = not (place == choice.place) && not (place == former)

abbrev pub can_be_told : Choice → (former : ℕ) → Known → (place : ℕ) → Bool
can_be_told choice former k place = is_replica choice former place && not (is_down k place)

abbrev pub is_settled : Choice → (former : ℕ) → Known → (place : ℕ) → Replica → Bool
is_settled choice former k place replica = not (is_replica choice former place) || is_done replica.progress || is_down k place

abbrev pub busy_count : List Replica → ℕ
busy_count replicas = count_by (λ replica. is_busy replica.progress) replicas

-- all that are due are told to follow the new master
abbrev pub telling_all : Choice → (former : ℕ) → Failover → Known → Failover
telling_all choice former f k = record f { replicas = told (is_due (can_be_told choice former k) f.replicas) k.now f.replicas }

-- by address they are told, while fewer than parallel-syncs were sent to and aren't done
abbrev pub telling_next : Choice → (former : ℕ) → Failover → Known → Failover
telling_next choice former f k =
    record f { replicas = told (is_next (can_be_told choice former k) (busy_count f.replicas) k.parallel_syncs f.replicas) k.now f.replicas }

abbrev pub table : FailoverState → Failover → Known → List TableRow
table Idle f k =
    row_if StartFailover (may_start f k) (started f k)
    ∷ []
table (WaitStart epoch) f k =
    row_if Elected (is_elected epoch k) (entering (SelectReplica epoch) k.now f)
    ∷ row_if ElectionTimeout (is_over (min ELECTION_MS k.timeout) f k) (ended f)
    ∷ row_if AwaitVotes true f
    ∷ []
table (SelectReplica epoch) f k =
    row_if ReplicaChosen (is_some k.best) (chosen epoch k.best f k)
    ∷ row_if NoReplica true (ended f)
    ∷ []
table (SendPromotion epoch choice) f k =
    row_if ChoiceTimeout (is_down k choice.place && is_over k.timeout f k) (ended f)
    ∷ row_if AwaitChoice (is_down k choice.place) f
    ∷ row_if Promote true (entering (WaitPromotion epoch choice k.card_place) k.now f)
    ∷ []
table (WaitPromotion epoch choice former) f k =
    row_if PromotionTimeout (is_over k.timeout f k) (ended f)
    ∷ row_if AwaitPromotion true f
    ∷ []
table (ReconfReplicas epoch choice former) f k =
    row_if ReconfTimeout (is_over k.timeout f k) (entering (UpdateConfig epoch choice) k.now (telling_all choice former f k))
    ∷ row_if ReconfDone (all_from (is_settled choice former k) 0 f.replicas) (entering (UpdateConfig epoch choice) k.now f)
    ∷ row_if Reconfigure true (telling_next choice former f k)
    ∷ []
table (UpdateConfig epoch choice) f k =
    row_if ConfigUpdated true (ended f)
    ∷ []

-- the failover after a turn, the row that was taken, and the vote that is given
pub record Turn : Type 0 where
  pub failover : Failover
  pub row : Option Row
  pub vote : Option RunId

abbrev pub first_that_fits : Failover → (vote : Option RunId) → List TableRow → Turn
first_that_fits f vote [] = record { failover = f; row = None; vote = vote }
first_that_fits f vote (row ∷ rows) =
    if row.fits then record { failover = row.leaves; row = Some row.row; vote = vote } else first_that_fits f vote rows

-- while votes are awaited the own one is given first, and counts in the row that is taken
abbrev pub vote_of : FailoverState → Known → Option RunId
vote_of (WaitStart epoch) k = vote_in epoch k
vote_of _ k = None

-- the orders of the turn before are over
abbrev pub quieted : Failover → Failover
quieted f = record f { replicas = map unordered f.replicas }

-- while replicas are reconfigured those that were sent to long ago are done first
abbrev pub expiring : FailoverState → (now : ℕ) → Failover → Failover
expiring (ReconfReplicas epoch choice former) now f = record f { replicas = map (expired now) f.replicas }
expiring _ now f = f

abbrev pub turn_in : FailoverState → Failover → Known → Turn
turn_in state f k = first_that_fits f (vote_of state k) (table state f k)

abbrev pub turned : Failover → Known → Turn
turned f k = turn_in f.state (expiring f.state k.now (quieted f)) k
