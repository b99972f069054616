-- Where the profiles differ, rule by rule: the strict rule, and Redis's with its reason. None of them is about what elects, or which configuration is taken; they say
-- who gets no vote, from when on a campaign may begin, for how long a failover waits, and which replicas count.
use Rattle.std.specs.Prelude.{ℕ, zero, suc, ◌+◌, ◌*◌, ◌/◌, ◌%◌, max, min, Bool, true, false, not, ◌&&◌, ◌||◌, nat_lt, nat_le, ◌==◌, is_some, unwrap_or, Option, Some, None, length, position, slice_index_or, slice_set, if◌then◌else◌}
use Rattle.ballot_law.specs.declared.addresses.RunId.{RunId}
use Rattle.ballot_law.specs.declared.replies.Info.{Info}
use Rattle.ballot_law.specs.Ballots.{kept_of}
use Rattle.ballot_law.specs.Clocks.{age, clock}
use Rattle.ballot_law.specs.Orders.{same_id}
use Rattle.ballot_law.specs.Watches.{down_since_of}
use Rattle.failover_states.specs.declared.periods.TheConstants.{ELECTION_MS, SPREAD_MS}
use Rattle.failover_states.specs.declared.states.FailoverState.{FailoverState}
use Rattle.failover_states.specs.declared.states.FailoverState.TheVariants.{Idle, WaitStart, SelectReplica, SendPromotion, WaitPromotion, ReconfReplicas, UpdateConfig}
use Rattle.failover_states.specs.declared.states.Row.{Row}
use Rattle.failover_states.specs.declared.states.Row.TheVariants.{ElectionTimeout, NoReplica, ChoiceTimeout, PromotionTimeout}
use Rattle.failover_states.specs.Calls.{choice_of}
use Rattle.failover_states.specs.Failovers.{Failover}
use Rattle.sentinel_rules.specs.declared.assumed.TheConstants.{ASSUMED_INFO}
use Rattle.sentinel_rules.specs.declared.periods.TheConstants.{HANDED_MS, LINK_MAX_S, LOOKED_MS, QUIET_MS, SWITCHED_MS}
use Rattle.sentinel_rules.specs.declared.profiles.Profile.{Profile}
use Rattle.sentinel_rules.specs.declared.profiles.Profile.TheVariants.{Strict, Redis}
use Rattle.sentinel_rules.specs.Plans.{Plan, roster_of, group_size, settings_at, nodes_of}
use Rattle.sentinel_rules.specs.States.{Core, NodeState, master_of, node_of, peer_of, failover_of, with_failover, with_master, card_place, is_idle, is_planned, is_refused, is_handed, says_master, says_replica, node_down_since, is_node_down, is_master_down, is_held, place_followed}

abbrev pub is_redis : Profile → Bool
is_redis Strict = false
is_redis Redis = true

-- the strict rule, or Redis's
abbrev pub by_profile : {X : Type 0} → Profile → (strict redis : X) → X
by_profile Strict strict redis = strict
by_profile Redis strict redis = redis

-- Who is of the group

-- the place of a candidate among the Sentinels
abbrev pub candidate_place : Plan → Option RunId → Option ℕ
candidate_place plan None = None
candidate_place plan (Some id) = position (λ member. same_id id member.id) (roster_of plan).sentinels

-- Whose vote is asked for, if anybody's. By the strict rule, as in Redis, whoever asks for votes gets them. In the other profile nobody does whom the roster lacks: a
-- Sentinel that was removed, and came back with its old file, would be elected by the group, and promote a node for itself beside the group's own master. It gets the
-- answer of one that asks for no vote
abbrev pub candidate_heeded : Plan → Option RunId → Option RunId
candidate_heeded plan candidate = by_profile plan.profile candidate (if is_some (candidate_place plan candidate) then candidate else None)

-- The last start

-- In Redis the wait after a start is a wait before the same master is failed over again, and another address is another master: the start is forgotten.
-- By the strict rule it stays, so a second death within two timeouts of the first one's failover waits
abbrev pub start_at_new_address : Profile → Option ℕ → Option ℕ
start_at_new_address Strict start = start
start_at_new_address Redis start = None

-- how long an election may last
abbrev pub election_ms : Plan → (m : ℕ) → ℕ
election_ms plan m = min ELECTION_MS (settings_at plan m).timeout

-- which turn a Sentinel has: by its place, and with each epoch another one is the first
abbrev pub turn_place : Plan → Core → ℕ
turn_place plan core = (plan.place + core.kept.current % group_size plan) % group_size plan

-- Those that begin anew after a campaign that failed share out a second among them, each has a part of it by its turn, and a random part of that is its pause:
-- so one asks for votes before the others do. In Redis each takes a random part of the whole second, and two that begin together split the votes
abbrev pub pause_of : Plan → Core → ℕ
pause_of plan core = (turn_place plan core * SPREAD_MS + core.random % SPREAD_MS) / group_size plan

-- what is kept as the last start where this Sentinel votes for another candidate. By the strict rule, as in Redis, this counts as a start of its own, and the
-- table waits for two timeouts. In the other profile it is the moment from which the own campaign may begin: by then the candidate's election has ended, and
-- where it brought a new address the start was forgotten
abbrev pub marked_at : Plan → Core → (m now : ℕ) → ℕ
marked_at plan core m now =
    by_profile plan.profile (now + core.random % SPREAD_MS) (now + election_ms plan m + pause_of plan core)

-- a failover counts as started at this moment
abbrev pub marked : (moment : ℕ) → Failover → Failover
marked moment f = record f { last_start = Some (clock moment) }

abbrev pub is_down_for : Option ℕ → (pause now : ℕ) → Bool
is_down_for None pause now = false
is_down_for (Some since) pause now = nat_le pause (age since now)

-- another Sentinel, which is down and has been for this one's pause
abbrev pub is_peer_lost : Plan → Core → (now : ℕ) → Option ℕ → Bool
is_peer_lost plan core now None = false
is_peer_lost plan core now (Some place) =
    not (place == plan.place)
    && is_down_for (down_since_of (peer_of core place).watch now (settings_at plan 0).after_ms false) (pause_of plan core) now

-- the candidate that this Sentinel voted for is down, so its campaign is over. In Redis whoever voted for it waits for two timeouts all the same
abbrev pub is_leader_lost : Plan → Core → (m now : ℕ) → Bool
is_leader_lost plan core m now = is_peer_lost plan core now (candidate_place plan (kept_of core.kept m).candidate)

-- whether the own campaign may begin, as far as the table leaves it open
abbrev pub may_begin : Plan → Core → (m now : ℕ) → Bool
may_begin plan core m now =
    by_profile plan.profile true (not (is_held (failover_of core m).last_start now) || is_leader_lost plan core m now)

-- How long a failover waits

-- the last reply to a PING came longer ago than a PING and its reply take
abbrev pub is_quiet : Option ℕ → (now : ℕ) → Bool
is_quiet None now = true
is_quiet (Some at) now = nat_lt QUIET_MS (age at now)

-- the connection to a node was lost, and nothing has been heard of the node for a while
abbrev pub is_gone : (now : ℕ) → NodeState → Bool
is_gone now node = node.lost && is_quiet node.last_ping now

-- the replica that a failover chose is down, or gone
abbrev pub is_choice_lost : Plan → Core → (m now : ℕ) → Option ℕ → Bool
is_choice_lost plan core m now None = false
is_choice_lost plan core m now (Some k) = is_node_down plan core m now k || is_gone now (node_of core m k)

-- where the master was told to hand over it does so soon or never; and nothing is awaited where that was refused, or the order to be the master
abbrev pub handed_ms : Core → (m timeout : ℕ) → ℕ
handed_ms core m timeout = if is_refused core m then 0 else (if is_handed core m then min HANDED_MS timeout else timeout)

-- the failover-timeout that the rows of the table go by. By the strict rule, as in Redis, a failover whose choice is lost waits for it until the timeout. In the
-- other profile it waits no longer, and what is kept as the last start is looked at as above and not by the table
abbrev pub patience : Plan → Core → (m now : ℕ) → ℕ
patience plan core m now =
    let f = failover_of core m in
    by_profile plan.profile (settings_at plan m).timeout
    (if is_idle f.state || is_choice_lost plan core m now (choice_of f.state) then 0 else handed_ms core m (settings_at plan m).timeout)

-- A failover that has ended

-- the rows that end one without a new configuration, and for how long nothing begins then beside the pause: where no replica could be chosen, as long as an
-- election may last
abbrev pub rest_after : Row → (election : ℕ) → Option ℕ
rest_after ElectionTimeout election = Some 0
rest_after NoReplica election = Some election
rest_after ChoiceTimeout election = Some 0
rest_after PromotionTimeout election = Some 0
rest_after _ election = None

-- by the strict rule, as in Redis, the next one begins two timeouts after the start of the last one, however that ended
abbrev pub rest_of : Profile → Option Row → (election : ℕ) → Option ℕ
rest_of Strict row election = None
rest_of Redis None election = None
rest_of Redis (Some row) election = rest_after row election

-- and no earlier than a vote that was given meanwhile has it
abbrev pub rested_at : Plan → Core → (m now rest : ℕ) → ℕ
rested_at plan core m now rest = max (unwrap_or (failover_of core m).last_start 0) (now + rest + pause_of plan core)

abbrev pub rested : Plan → (m now : ℕ) → Option ℕ → Core → Core
rested plan m now None core = core
rested plan m now (Some rest) core = with_failover core m (marked (rested_at plan core m now rest) (failover_of core m))

abbrev pub with_pause : Plan → (m now : ℕ) → Option Row → Core → Core
with_pause plan m now row core = rested plan m now (rest_of plan.profile row (election_ms plan m)) core

-- Replicas that didn't obey

-- The replica that was told that it is the master, where it is up. By the strict rule, as in Redis, it is chosen again each time, as the best one. In the other profile
-- others go before it once it has refused, or hasn't obeyed by the timeout; not where its master was to hand over to it, since it was told nothing then
abbrev pub awaited_up : Plan → Core → (m now : ℕ) → Option ℕ
awaited_up plan core m now =
    let choice = choice_of (failover_of core m).state in
    by_profile plan.profile None (if is_planned core m || is_choice_lost plan core m now choice then None else choice)

-- which replica didn't obey, where a turn took this row
abbrev pub disobeyed : Option Row → (awaited : Option ℕ) → Option ℕ
disobeyed (Some PromotionTimeout) awaited = awaited
disobeyed _ awaited = None

abbrev pub with_failed : (m now : ℕ) → Option ℕ → Core → Core
with_failed m now None core = core
with_failed m now (Some k) core = with_master core m (record (master_of core m) { failed = slice_set (master_of core m).failed k (Some now) })

-- when it last was given up
abbrev pub failed_at : Core → (m k : ℕ) → Option ℕ
failed_at core m k = slice_index_or (master_of core m).failed k None

-- less than two timeouts ago
abbrev pub is_half_below : Option ℕ → (now timeout : ℕ) → Bool
is_half_below None now timeout = false
is_half_below (Some at) now timeout = nat_lt (age at now / 2) timeout

abbrev pub is_below : Option ℕ → (now period : ℕ) → Bool
is_below None now period = false
is_below (Some at) now period = nat_lt (age at now) period

-- It was given up, and others go before it. Where there is no other it is told again, not sooner than an election may last: it answers at once, and each try is an epoch
abbrev pub is_passed_over : Plan → Core → (m now : ℕ) → (again : Bool) → (k : ℕ) → Bool
is_passed_over plan core m now again k =
    if again then is_below (failed_at core m k) now (election_ms plan m) else is_half_below (failed_at core m k) now (settings_at plan m).timeout

-- A switch that was made at the nodes

-- the place, where it passes
abbrev pub passing : Option ℕ → (ℕ → Bool) → Option ℕ
passing None passes = None
passing (Some k) passes = if passes k then Some k else None

-- another node than the configuration's says that it is a master, and can be reached, and the configuration's has said for a while that it is a replica
abbrev pub is_taking_over : Plan → Core → (m now k : ℕ) → Bool
is_taking_over plan core m now k =
    not (k == card_place plan core m)
    && (is_down_for (node_of core m (card_place plan core m)).watch.replica_since SWITCHED_MS now
    && (says_master (node_of core m k).info
    && not (is_node_down plan core m now k || (node_of core m k).lost)))

-- Where an operator has the master hand over to a replica, by Redis's own FAILOVER, neither is down, and so it is where a master hands over after the Sentinel
-- that told it to has gone. By the strict rule, as in Redis, the former master is taken
-- for one that is wrong: it is down after 20 seconds, and any replica may be promoted. In the other profile the node that it follows is to be the master, and a
-- campaign for it begins at once
abbrev pub switched_to : Plan → Core → (m now : ℕ) → Option ℕ
switched_to plan core m now =
    by_profile plan.profile None
    (passing (place_followed plan m (unwrap_or (node_of core m (card_place plan core m)).info ASSUMED_INFO).master) (is_taking_over plan core m now))

-- and that was so for this Sentinel's pause too. The pause is for the start alone: it goes by the epoch, which the campaign changes
abbrev pub is_switch_due : Plan → Core → (m now : ℕ) → Bool
is_switch_due plan core m now =
    is_down_for (node_of core m (card_place plan core m)).watch.replica_since (SWITCHED_MS + pause_of plan core) now
    && is_some (switched_to plan core m now)

-- the node of the configuration is up, and says that it is a replica: nobody but the node that took over may be promoted then
abbrev pub is_given_away : Plan → Core → (m now : ℕ) → Bool
is_given_away plan core m now =
    by_profile plan.profile false (says_replica (node_of core m (card_place plan core m)).info && not (is_master_down plan core m now))

-- the first of two, where there is one
abbrev pub first_of : Option ℕ → Option ℕ → Option ℕ
first_of None other = other
first_of (Some k) other = Some k

-- votes are awaited
abbrev pub is_electing : FailoverState → Bool
is_electing Idle = false
is_electing (WaitStart epoch) = true
is_electing (SelectReplica epoch) = false
is_electing (SendPromotion epoch choice) = false
is_electing (WaitPromotion epoch choice former) = false
is_electing (ReconfReplicas epoch choice former) = false
is_electing (UpdateConfig epoch choice) = false

-- The other Sentinels are asked while the master is down. In the other profile they are asked for their votes of a master that is up, too: a campaign that awaits
-- votes then is of a switch, or has ended
abbrev pub is_asking : Plan → Core → (m now : ℕ) → Bool
is_asking plan core m now = is_master_down plan core m now || by_profile plan.profile false (is_electing (failover_of core m).state)

-- whether a switch is looked for: the master was told to hand over, or this Sentinel voted for another one a moment ago, though the master was well. The last start
-- is kept as an election and a pause after the vote
abbrev pub is_soon_after_vote : Option ℕ → (election now : ℕ) → Bool
is_soon_after_vote None election now = false
is_soon_after_vote (Some from) election now = is_held (Some from) now && nat_lt election (age now from + LOOKED_MS)

-- By the strict rule, as in Redis, the master is asked for its INFO each ten seconds. In the other profile it is asked as often as the replica to which it hands
-- over, so that each Sentinel sees who took over, though the leader dies
abbrev pub is_looking : Plan → Core → (m now : ℕ) → Bool
is_looking plan core m now =
    by_profile plan.profile false
    (is_handed core m || (not (master_of core m).odown && is_soon_after_vote (failover_of core m).last_start (election_ms plan m) now))

-- Which replicas count

-- for how many seconds the link of a replica has been down, where it has told; that of the configuration's node doesn't count
abbrev pub link_told : Option Info → Option ℕ
link_told None = None
link_told (Some info) = Some info.link_down_s

abbrev pub link_at : Plan → Core → (m k : ℕ) → Option ℕ
link_at plan core m k = if k == card_place plan core m then None else link_told (node_of core m k).info

abbrev pub lesser : Option ℕ → Option ℕ → Option ℕ
lesser None b = b
lesser (Some a) None = Some a
lesser (Some a) (Some b) = Some (min a b)

-- the least of the first n values
abbrev pub least_below : (ℕ → Option ℕ) → (n : ℕ) → Option ℕ
least_below f zero = None
least_below f (suc n) = lesser (least_below f n) (f n)

-- in milliseconds, of 136 years at most
abbrev pub least_link_ms : Plan → Core → (m : ℕ) → ℕ
least_link_ms plan core m = min (unwrap_or (least_below (link_at plan core m) (length (nodes_of plan m))) 0) LINK_MAX_S * 1000

abbrev pub down_for : Option ℕ → (now : ℕ) → ℕ
down_for None now = 0
down_for (Some since) now = age since now

-- For how long the master has been down, as a replica's link is judged by it. By the strict rule, as in Redis, as long as this Sentinel has found it down. Where
-- the master hasn't replied once since this Sentinel's start, nobody knows since when it is down: the replicas do, by the link that was lost last, so in the other
-- profile it is at least as long as that; and at least as long as it has said that it is a replica, since when nobody has followed it
abbrev pub master_down_ms : Plan → Core → (m now : ℕ) → ℕ
master_down_ms plan core m now =
    let place = card_place plan core m in
    let found = down_for (node_down_since plan core m now place) now in
    by_profile plan.profile found
    (max (down_for (node_of core m place).watch.replica_since now) (if is_some (node_of core m place).last_ping then found else max found (least_link_ms plan core m)))
