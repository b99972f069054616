-- A failover that comes to nothing, or goes on in another way, apart from the rows of its table. By the strict rule, as in Redis, it goes by the table alone.
use Rattle.std.specs.Prelude.{ℕ, ◌+◌, Bool, true, false, not, ◌&&◌, ◌||◌, nat_le, ◌==◌, unwrap_or, Option, Some, None, length, nat_lt, ◌/◌, count_by, if◌then◌else◌}
use Rattle.ballot_law.specs.declared.addresses.RunId.{RunId}
use Rattle.ballot_law.specs.declared.hearings.HeardVote.{HeardVote}
use Rattle.ballot_law.specs.Counts.{count_below}
use Rattle.ballot_law.specs.Reports.{is_odown_by, kept_at as report_at}
use Rattle.ballot_law.specs.Rosters.{need}
use Rattle.down_detector.specs.Ups.{says_up}
use Rattle.ballot_law.specs.VotesHeard.{kept_at, pick_in, count_in}
use Rattle.failover_states.specs.declared.states.FailoverState.{FailoverState}
use Rattle.failover_states.specs.declared.states.FailoverState.TheVariants.{Idle, WaitStart, SelectReplica, SendPromotion, WaitPromotion, ReconfReplicas, UpdateConfig}
use Rattle.failover_states.specs.Calls.{choice_of, epoch_of, recalled}
use Rattle.failover_states.specs.Failovers.{ended}
use Rattle.vote_book.specs.Elections.{elects}
use Rattle.sentinel_rules.specs.declared.periods.TheConstants.{SWITCH_MS, ASK_MS}
use Rattle.sentinel_rules.specs.Plans.{Plan, roster_of, me, group_size}
use Rattle.sentinel_rules.specs.States.{Core, master_of, node_of, failover_of, with_master, card_place, is_recent, is_planned, is_handed, is_peer_down, is_master_down, says_replica}
use Rattle.sentinel_rules.specs.Profiles.{by_profile, is_below, is_choice_lost, is_electing, marked, rested_at}
use Rattle.sentinel_rules.specs.Votes.{book_of}

-- no node was told anything yet, so the failover can end as if it hadn't begun
abbrev pub is_untold : FailoverState → Bool
is_untold Idle = false
is_untold (WaitStart epoch) = true
is_untold (SelectReplica epoch) = true
is_untold (SendPromotion epoch choice) = true
is_untold (WaitPromotion epoch choice former) = false
is_untold (ReconfReplicas epoch choice former) = false
is_untold (UpdateConfig epoch choice) = false

-- A master that is back

-- the failover is of a switch that was asked for, or made at the nodes: the node of the configuration may be up
abbrev pub is_switch : Plan → Core → (m : ℕ) → Bool
is_switch plan core m = is_planned core m || says_replica (node_of core m (card_place plan core m)).info

-- it is up and connected
abbrev pub is_reached : Plan → Core → (m now : ℕ) → Bool
is_reached plan core m now = not (is_master_down plan core m now || (node_of core m (card_place plan core m)).lost)

-- how many of the others have said since they were asked last that it is up
abbrev pub ups : Core → (m : ℕ) → ℕ
ups core m = count_by (says_up (unwrap_or (master_of core m).ask_sent 0)) (master_of core m).reports

-- More than half of the group have. It is this Sentinel that doesn't reach it, as where a cut has healed, and its own connection isn't back yet
unfoldable pub is_outvoted : Plan → Core → (m : ℕ) → Bool
is_outvoted plan core m = nat_lt (group_size plan / 2) (ups core m)

-- the failover was begun since the master was down, and it is back, or is up for the others: a replica that took its place would lose what it wrote
abbrev pub is_needless : Plan → Core → (m now : ℕ) → Bool
is_needless plan core m now = not (is_switch plan core m) && (is_reached plan core m now || is_outvoted plan core m)

-- with this Sentinel more than half of the group find it down
abbrev pub is_most_down : Plan → Core → (m now : ℕ) → Bool
is_most_down plan core m now =
    is_odown_by true (report_at (master_of core m).reports) (length (master_of core m).reports) now (group_size plan / 2 + 1)

-- One says that it is up, and less than a majority finds it down, as where the quorum is below one and a cut has healed. Votes don't count then: whoever gives one
-- may reach the master, and the other answers, or the own connection to it, are on their way. By the strict rule, as in Redis, votes count whatever voters say
unfoldable pub is_contested : Plan → Core → (m now : ℕ) → Bool
is_contested plan core m now =
    by_profile plan.profile false (not (is_switch plan core m) && (nat_lt 0 (ups core m) && not (is_most_down plan core m now)))

-- A switch that was asked for too long ago

abbrev pub is_stale : Core → (m now : ℕ) → Bool
is_stale core m now = is_planned core m && not (is_recent (master_of core m).wish SWITCH_MS now)

-- Votes that are split

-- a vote of this epoch, or of a later one
abbrev pub is_given : (epoch : ℕ) → Option HeardVote → Bool
is_given epoch None = false
is_given epoch (Some vote) = nat_le epoch vote.epoch

-- the Sentinel at a place has answered a campaign of this epoch
abbrev pub has_answered : Core → (m epoch place : ℕ) → Bool
has_answered core m epoch place = is_given epoch (kept_at (master_of core m).heard place)

-- it is another one, which is up and may answer yet
abbrev pub may_answer : Plan → Core → (m now epoch place : ℕ) → Bool
may_answer plan core m now epoch place =
    not (place == plan.place) && (not (is_peer_down plan core now place) && not (has_answered core m epoch place))

abbrev pub answers : Plan → Core → (m epoch : ℕ) → ℕ
answers plan core m epoch = count_below (has_answered core m epoch) (group_size plan)

abbrev pub awaited_answers : Plan → Core → (m now epoch : ℕ) → ℕ
awaited_answers plan core m now epoch = count_below (may_answer plan core m now epoch) (group_size plan)

-- the votes heard elect this candidate, with the own one
abbrev pub has_won : Plan → Core → (m epoch : ℕ) → RunId → Bool
has_won plan core m epoch candidate =
    elects (book_of core m) (count_in (kept_at (master_of core m).heard) (length (master_of core m).heard) epoch candidate) epoch candidate
    (need (roster_of plan) m)

-- as many have answered as could elect, and all have that are up
abbrev pub is_answered : Plan → Core → (m now epoch : ℕ) → Bool
is_answered plan core m now epoch =
    nat_le (need (roster_of plan) m) (answers plan core m epoch + 1) && awaited_answers plan core m now epoch == 0

-- The current epoch is a later one, as where others campaign for other masters at the same time, and the answers have had their time. Whoever is asked again is
-- asked in the current epoch
abbrev pub is_passed : Core → (m now epoch : ℕ) → Bool
is_passed core m now epoch = nat_lt epoch core.kept.current && not (is_below (master_of core m).ask_sent now ASK_MS)

-- no vote of this epoch is to come any more, and no candidate has won
unfoldable pub is_split_in : Plan → Core → (m now epoch : ℕ) → Bool
is_split_in plan core m now epoch =
    (is_answered plan core m now epoch || is_passed core m now epoch)
    && not (has_won plan core m epoch (me plan)
    || has_won plan core m epoch (pick_in (kept_at (master_of core m).heard) (length (master_of core m).heard) epoch (me plan)))

abbrev pub is_split : Plan → Core → (m now : ℕ) → Bool
is_split plan core m now =
    is_electing (failover_of core m).state && is_split_in plan core m now (unwrap_or (epoch_of (failover_of core m).state) 0)

-- What becomes of the failover

-- it comes to nothing, and ends at once
abbrev pub is_vain : Plan → Core → (m now : ℕ) → Bool
is_vain plan core m now =
    is_untold (failover_of core m).state && (is_needless plan core m now || (is_stale core m now || is_split plan core m now))

-- the next one begins a pause later, as after an election that was lost; a switch that was asked for is wished for still
abbrev pub given_up : Plan → (m now : ℕ) → Core → Core
given_up plan m now core =
    with_master core m (record (master_of core m) {
      failover = marked (rested_at plan core m now 0) (ended (failover_of core m));
      planned = if is_planned core m then None else (master_of core m).planned;
    })

-- the master was told to hand over, and is objectively down before it did: the choice, which is there, is to take its place as in any failover
abbrev pub is_overtaken : Plan → Core → (m now : ℕ) → Bool
is_overtaken plan core m now =
    is_handed core m && ((master_of core m).odown && not (is_choice_lost plan core m now (choice_of (failover_of core m).state)))

abbrev pub taken_up : (m now : ℕ) → Core → Core
taken_up m now core =
    with_master core m (record (master_of core m) { failover = recalled now (failover_of core m); planned = None; refused = false })

abbrev pub let_go : Plan → (m now : ℕ) → Core → Core
let_go plan m now core =
    by_profile plan.profile core
    (if is_vain plan core m now then given_up plan m now core else (if is_overtaken plan core m now then taken_up m now core else core))
