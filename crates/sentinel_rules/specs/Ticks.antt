-- A tick of one master: the clock, what is due to be sent, what is down, the failover, the questions to the other Sentinels.
use Rattle.std.specs.Prelude.{ℕ, zero, suc, ◌+◌, ◌-◌, min, Bool, true, false, not, ◌&&◌, ◌||◌, nat_lt, nat_le, ◌==◌, is_some, Option, Some, None, unwrap_or, option_map, List, [], ◌∷◌, ◌++◌, length, if◌then◌else◌}
use Rattle.std.specs.List.{list_all, list_any}
use Rattle.ballot_law.specs.declared.addresses.Addr.{Addr}
use Rattle.ballot_law.specs.declared.addresses.RunId.{RunId}
use Rattle.ballot_law.specs.declared.messages.NodeName.TheVariants.{SentinelAt}
use Rattle.ballot_law.specs.declared.replies.Info.{Info}
use Rattle.ballot_law.specs.Clocks.{age}
use Rattle.ballot_law.specs.OwnVotes.{asked}
use Rattle.ballot_law.specs.Rosters.{need}
use Rattle.ballot_law.specs.VotesHeard.{kept_at, pick_in, count_in}
use Rattle.ballot_law.specs.Tilts.{turned_at}
use Rattle.ballot_law.specs.Watches.{down_since_of}
use Rattle.vote_book.specs.Elections.{next_epoch}
use Rattle.replica_choice.specs.declared.candidates.Candidate.{Candidate}
use Rattle.replica_choice.specs.declared.candidates.Limits.{Limits}
use Rattle.replica_choice.specs.Choices.{choice_of}
use Rattle.failover_states.specs.declared.states.Row.{Row}
use Rattle.failover_states.specs.declared.states.Row.TheVariants.{Elected, Promote, PromotionTimeout}
use Rattle.failover_states.specs.declared.replicas.Replica.{Replica as ReplicaOrder}
use Rattle.failover_states.specs.Calls.{epoch_of, choice_of as chosen_place}
use Rattle.failover_states.specs.Known.{Known}
use Rattle.failover_states.specs.Table.{Turn, turned}
use Rattle.sentinel_rules.specs.declared.assumed.TheConstants.{ASSUMED_INFO}
use Rattle.sentinel_rules.specs.declared.periods.TheConstants.{PING_MS, INFO_MS, BUSY_INFO_MS, HEIR_INFO_MS, HELLO_MS, HELLO_LATE_MS, ASK_MS}
use Rattle.sentinel_rules.specs.declared.frames.Frame.{Frame}
use Rattle.sentinel_rules.specs.declared.frames.Frame.TheVariants.{PingTo, InfoTo, HelloTo, AskTo, PromoteTo, HandOverTo, FollowTo}
use Rattle.sentinel_rules.specs.Contacts.{contact_asked, since_after}
use Rattle.sentinel_rules.specs.Plans.{Plan, roster_of, me, master_count, settings_at, nodes_of, addr_at, node_name}
use Rattle.sentinel_rules.specs.States.{Core, NodeState, PeerState, master_of, node_of, failover_of, with_master, with_failover, with_current, is_at, card_place, place_followed, is_failing_over, is_tilted, is_wished, is_planned, is_unrefused, is_handed, is_node_down, is_master_down, is_odown_at}
use Rattle.sentinel_rules.specs.Parts.{Part, quiet, puts, then_part, part_if, frame_if, changed_from, frames_from}
use Rattle.sentinel_rules.specs.Profiles.{by_profile, may_begin, patience, with_pause, awaited_up, disobeyed, with_failed, is_passed_over, switched_to, is_switch_due, is_given_away, first_of, is_asking, is_electing, is_looking, master_down_ms}
use Rattle.sentinel_rules.specs.Votes.{book_of, with_book, mark_for}
use Rattle.sentinel_rules.specs.Endings.{is_contested, let_go}

-- What is due

-- it was never sent, or at a later reading, or so long ago
abbrev pub is_due : Option ℕ → (now period : ℕ) → Bool
is_due None now period = true
is_due (Some sent) now period = nat_lt now sent || nat_le period (now - sent)

-- the moment of sending, where it is sent now
abbrev pub sent_at : (due : Bool) → (now : ℕ) → Option ℕ → Option ℕ
sent_at due now sent = if due then Some now else sent

-- a PING each second, or as often as the master's setting asks
abbrev pub ping_period : Plan → (m : ℕ) → ℕ
ping_period plan m = min PING_MS (settings_at plan m).after_ms

-- the other Sentinels go by the first master's setting
abbrev pub is_peer_due : Plan → (now place : ℕ) → PeerState → Bool
is_peer_due plan now place peer = not (place == plan.place) && is_due peer.ping_sent now (ping_period plan 0)

abbrev pub peer_after : Plan → (now place : ℕ) → PeerState → PeerState
peer_after plan now place peer =
    record peer {
      ping_sent = sent_at (is_peer_due plan now place peer) now peer.ping_sent;
      contact = contact_asked (is_peer_due plan now place peer) now peer.contact;
    }

abbrev pub peer_frames : Plan → (now place : ℕ) → PeerState → List Frame
peer_frames plan now place peer = frame_if (is_peer_due plan now place peer) (PingTo (SentinelAt place))

-- with the first master's tick each other Sentinel is sent its PING
abbrev pub peers_part : Plan → (m now : ℕ) → Core → Part
peers_part plan zero now core =
    puts (record core { peers = changed_from (peer_after plan now) 0 core.peers }) (frames_from (peer_frames plan now) 0 core.peers)
peers_part plan (suc m) now core = quiet core

abbrev pub had_link_down : Option Info → Bool
had_link_down None = false
had_link_down (Some info) = nat_lt 0 info.link_down_s

-- INFO each 10 seconds; each second to a replica whose master is down or fails over, or whose link was down; each 20 ms to the one to which the master
-- hands over
abbrev pub info_period : (is_heir is_card is_busy : Bool) → NodeState → ℕ
info_period is_heir is_card is_busy node =
    if is_heir then HEIR_INFO_MS else (if not is_card && (is_busy || had_link_down node.info) then BUSY_INFO_MS else INFO_MS)

-- what the sending to a master's nodes goes by: the reading, the period of PING, the place of the configuration's node, whether the master was down at its last
-- tick or fails over, the place of the replica to which it was told to hand over, and whether the configuration's node is looked at as often
pub record Sending : Type 0 where
  pub now : ℕ
  pub ping_ms : ℕ
  pub card_place : ℕ
  pub is_busy : Bool
  pub heir : Option ℕ
  pub followed : Option ℕ
  pub looks : Bool
  pub hello_ms : ℕ

abbrev pub heir_of : Core → (m : ℕ) → Option ℕ
heir_of core m = if is_handed core m then chosen_place (failover_of core m).state else None

-- A hello each two seconds. Where an own campaign awaits votes hellos wait: one that overtakes a request for a vote would raise the epoch of whoever is asked, and
-- the request would be of an epoch that has passed
abbrev pub hello_period : Plan → Core → ℕ
hello_period plan core =
    by_profile plan.profile HELLO_MS (if list_any (λ master. is_electing master.failover.state) core.masters then HELLO_LATE_MS else HELLO_MS)

abbrev pub sending_of : Plan → Core → (m now : ℕ) → Sending
sending_of plan core m now =
    record {
      now = now;
      ping_ms = ping_period plan m;
      card_place = card_place plan core m;
      is_busy = (master_of core m).odown || is_failing_over core m;
      heir = heir_of core m;
      followed = place_followed plan m (unwrap_or (node_of core m (card_place plan core m)).info ASSUMED_INFO).master;
      looks = is_looking plan core m now;
      hello_ms = hello_period plan core;
    }

abbrev pub is_ping_due : Sending → NodeState → Bool
is_ping_due s node = is_due node.ping_sent s.now s.ping_ms

abbrev pub is_info_due : Sending → (k : ℕ) → NodeState → Bool
is_info_due s k node =
    is_due node.info_sent s.now (info_period (is_at s.heir k || (s.looks && (is_at s.followed k || (k == s.card_place)))) (k == s.card_place) s.is_busy node)

abbrev pub is_hello_due : Sending → NodeState → Bool
is_hello_due s node = is_due node.hello_sent s.now s.hello_ms

abbrev pub node_after : Sending → (k : ℕ) → NodeState → NodeState
node_after s k node =
    record node {
      ping_sent = sent_at (is_ping_due s node) s.now node.ping_sent;
      info_sent = sent_at (is_info_due s k node) s.now node.info_sent;
      hello_sent = sent_at (is_hello_due s node) s.now node.hello_sent;
      contact = contact_asked (is_ping_due s node) s.now node.contact;
    }

abbrev pub node_frames : Plan → (m : ℕ) → Sending → (k : ℕ) → NodeState → List Frame
node_frames plan m s k node =
    frame_if (is_ping_due s node) (PingTo (node_name plan m k))
    ++ (frame_if (is_info_due s k node) (InfoTo (node_name plan m k))
    ++ frame_if (is_hello_due s node) (HelloTo (node_name plan m k) m))

-- node by node, by address: PING, INFO, hello
abbrev pub nodes_part : Plan → (m now : ℕ) → Core → Part
nodes_part plan m now core =
    let s = sending_of plan core m now in
    puts
    (with_master core m (record (master_of core m) { nodes = changed_from (node_after s) 0 (master_of core m).nodes }))
    (frames_from (node_frames plan m s) 0 (master_of core m).nodes)

-- The failover

-- the node of the configuration is no candidate; one that is down, or to which the connection was lost, may not be chosen
abbrev pub candidate_of : Plan → Core → (m now k : ℕ) → Candidate
candidate_of plan core m now k =
    let node = node_of core m k in
    let info = unwrap_or node.info ASSUMED_INFO in
    record {
      sdown = ((k == card_place plan core m) || is_node_down plan core m now k) || node.lost;
      priority = info.priority;
      link_down_s = info.link_down_s;
      last_ping = node.last_ping;
      last_info = node.info_at;
      offset = info.offset;
      id = info.id;
    }

-- the values of a function at so many places from this one on
abbrev pub at_places : {X : Type 0} → (ℕ → X) → (place count : ℕ) → List X
at_places f place zero = []
at_places f place (suc count) = f place ∷ at_places f (place + 1) count

abbrev pub candidates_of : Plan → Core → (m now : ℕ) → List Candidate
candidates_of plan core m now = at_places (candidate_of plan core m now) 0 (length (nodes_of plan m))

-- for how long the master has been down, beside its setting
abbrev pub limits_of : Plan → Core → (m now : ℕ) → Limits
limits_of plan core m now =
    record {
      after_ms = (settings_at plan m).after_ms;
      master_down_ms = master_down_ms plan core m now;
    }

-- one that didn't obey is no candidate, as one that is down isn't
abbrev pub willing_of : Plan → Core → (m now : ℕ) → (again : Bool) → (k : ℕ) → Candidate
willing_of plan core m now again k =
    let candidate = candidate_of plan core m now k in record candidate { sdown = candidate.sdown || is_passed_over plan core m now again k }

abbrev pub willing_ones : Plan → Core → (m now : ℕ) → (again : Bool) → List Candidate
willing_ones plan core m now again = at_places (willing_of plan core m now again) 0 (length (nodes_of plan m))

abbrev pub best_willing : Plan → Core → (m now : ℕ) → (again : Bool) → Option ℕ
best_willing plan core m now again = choice_of (willing_ones plan core m now again) now (limits_of plan core m now)

-- by what they told; by the profile one that didn't obey is chosen where there is no other
abbrev pub best_told : Plan → Core → (m now : ℕ) → Option ℕ
best_told plan core m now =
    by_profile plan.profile (choice_of (candidates_of plan core m now) now (limits_of plan core m now))
    (first_of (best_willing plan core m now false) (best_willing plan core m now true))

-- the best replica, by its place and its address; after a switch that was made at the nodes it is the node that took over
abbrev pub best_place : Plan → Core → (m now : ℕ) → Option ℕ
best_place plan core m now =
    first_of (switched_to plan core m now)
    (if is_given_away plan core m now then None else best_told plan core m now)

abbrev pub best_of : Plan → Core → (m now : ℕ) → Option (ℕ × Addr)
best_of plan core m now = option_map (λ k. (k, addr_at plan m k)) (best_place plan core m now)

-- the epoch of the campaign; 0 where no failover runs
abbrev pub campaign_epoch : Core → (m : ℕ) → ℕ
campaign_epoch core m = unwrap_or (epoch_of (failover_of core m).state) 0

abbrev pub pick_of : Plan → Core → (m epoch : ℕ) → RunId
pick_of plan core m epoch =
    pick_in (kept_at (master_of core m).heard) (length (master_of core m).heard) epoch (me plan)

abbrev pub count_of : Plan → Core → (m epoch : ℕ) → ℕ
count_of plan core m epoch =
    count_in (kept_at (master_of core m).heard) (length (master_of core m).heard) epoch (me plan)

-- the votes that count in a turn
abbrev pub counted : Plan → Core → (m now epoch : ℕ) → ℕ
counted plan core m now epoch = if is_contested plan core m now then 0 else count_of plan core m epoch

abbrev pub known_of : Plan → Core → (m now : ℕ) → (odown : Bool) → Known
known_of plan core m now odown =
    record {
      now = now;
      random = core.random;
      odown = odown;
      current = core.kept.current;
      voted = (book_of core m).voted;
      own = (book_of core m).leader;
      me = me plan;
      need = need (roster_of plan) m;
      pick = pick_of plan core m (campaign_epoch core m);
      count = counted plan core m now (campaign_epoch core m);
      best = best_of plan core m now;
      card_place = card_place plan core m;
      down = at_places (is_node_down plan core m now) 0 (length (nodes_of plan m));
      timeout = patience plan core m now;
      parallel_syncs = (settings_at plan m).parallel_syncs;
    }

abbrev pub turn_of : Plan → Core → (m now : ℕ) → (odown : Bool) → Turn
turn_of plan core m now odown = turned (failover_of core m) (known_of plan core m now odown)

-- the vote that a row gives, to itself or to the candidate with most votes
abbrev pub with_vote : Plan → (m now epoch : ℕ) → Option RunId → Core → Core
with_vote plan m now epoch None core = core
with_vote plan m now epoch (Some candidate) core =
    mark_for plan m now candidate (with_book core m (asked (book_of core m) epoch candidate))

-- an election is noted
abbrev pub with_win : (m epoch : ℕ) → Option Row → Core → Core
with_win m epoch (Some Elected) core = record core { won = Some (record { master = m; epoch = epoch }) }
with_win m epoch _ core = core

-- in a switch that was asked for the master is told to hand over to the choice, where it is up
unfoldable pub hands_over : Plan → Core → (m now : ℕ) → Bool
hands_over plan core m now = is_planned core m && not (is_master_down plan core m now)

-- else the choice is told that it is the master
abbrev pub order_to : Plan → Core → (m k : ℕ) → (hands_over : Bool) → Frame
order_to plan core m k hands_over =
    if hands_over then HandOverTo (node_name plan m (card_place plan core m)) (Some (record { node = node_name plan m k; addr = addr_at plan m k })) else PromoteTo (node_name plan m k)

-- and where a master that was to hand over didn't in time, it is told to stay; not one that refused, which may be handing over for another Sentinel
abbrev pub promote_frames : Plan → Core → (m : ℕ) → (unrefused hands_over : Bool) → Option Row → (choice : Option ℕ) → List Frame
promote_frames plan core m unrefused hands_over (Some Promote) (Some k) = order_to plan core m k hands_over ∷ []
promote_frames plan core m unrefused hands_over (Some PromotionTimeout) choice = frame_if unrefused (HandOverTo (node_name plan m (card_place plan core m)) None)
promote_frames plan core m unrefused hands_over row choice = []

-- those that the row orders to follow the new master, by address
abbrev pub order_frames : Plan → (m k : ℕ) → ReplicaOrder → List Frame
order_frames plan m k replica = frame_if replica.ordered (FollowTo (node_name plan m k) m)

-- the first row that fits; one that ends the failover may have the next one wait, and others go before the replica that didn't obey
abbrev pub row_part : Plan → (m now : ℕ) → Core → Part
row_part plan m now core =
    let turn = turn_of plan core m now false in
    let epoch = campaign_epoch core m in
    puts
    (with_failed m now (disobeyed turn.row (awaited_up plan core m now))
    (with_pause plan m now turn.row (with_win m epoch turn.row (with_vote plan m now epoch turn.vote (with_failover core m turn.failover)))))
    (promote_frames plan core m (is_unrefused core m) (hands_over plan core m now) turn.row (chosen_place turn.failover.state)
    ++ frames_from (order_frames plan m) 0 turn.failover.replicas)

-- where no failover runs one may start: its campaign opens the epoch after the current one
abbrev pub after_start : (m : ℕ) → Turn → Core → Core
after_start m turn core =
    let after = with_failover core m turn.failover in if is_some turn.row then with_current after (next_epoch (book_of core m)) else after

-- all nodes of the master are down, and all other Sentinels
abbrev pub is_all_down : Plan → Core → (m now : ℕ) → Bool
is_all_down plan core m now =
    list_all (λ down. down) (at_places (is_node_down plan core m now) 0 (length (nodes_of plan m)))
    && list_all (λ peer. is_some (down_since_of peer.watch now (settings_at plan 0).after_ms false)) core.peers

-- Where all are down at the reading at which the master is found objectively down it may be this Sentinel that stood still. By the strict rule, as in Redis, a
-- campaign begins all the same; in the other profile not before the next tick
abbrev pub is_own_pause : Plan → Core → (m now : ℕ) → Bool
is_own_pause plan core m now =
    by_profile plan.profile false (is_at (master_of core m).odown_since now && is_all_down plan core m now)

-- a client asked for a switch, the master was objectively down when that was last computed, or a switch was made at the nodes; and the own campaign may begin
abbrev pub is_start_due : Plan → Core → (m now : ℕ) → Bool
is_start_due plan core m now =
    (is_wished core m now || (((master_of core m).odown && not (is_own_pause plan core m now)) || is_switch_due plan core m now))
    && may_begin plan core m now

-- a campaign that began is that of the switch that was asked for, if one was
abbrev pub planned_if : (wished : Bool) → (epoch last : Option ℕ) → Option ℕ
planned_if true epoch last = epoch
planned_if false epoch last = last

abbrev pub with_plan : (m now : ℕ) → Core → Core
with_plan m now core =
    with_master core m (record (master_of core m) {
      planned = planned_if (is_wished core m now) (epoch_of (failover_of core m).state) (master_of core m).planned;
      refused = false;
    })

abbrev pub planned_start : (m now : ℕ) → Turn → Core → Core
planned_start m now turn core = if is_some turn.row then with_plan m now (after_start m turn core) else after_start m turn core

abbrev pub start_turn : Plan → Core → (m now : ℕ) → Turn
start_turn plan core m now = turn_of plan core m now (is_start_due plan core m now)

abbrev pub starts_now : Plan → Core → (m now : ℕ) → Bool
starts_now plan core m now = not (is_failing_over core m) && is_some (start_turn plan core m now).row

abbrev pub start_part : Plan → (m now : ℕ) → Core → Part
start_part plan m now core =
    part_if (not (is_failing_over core m)) core (λ c. quiet (planned_start m now (start_turn plan c m now) c))

-- The questions to the other Sentinels

-- at a start, where none was sent yet, and one second after the last
abbrev pub is_ask_due : (started : Bool) → Option ℕ → (now : ℕ) → Bool
is_ask_due started None now = true
is_ask_due started (Some sent) now = started || nat_le ASK_MS (age sent now)

-- votes are awaited, of the current epoch, in which the others are asked
abbrev pub awaits_votes : Core → (m : ℕ) → Bool
awaits_votes core m = is_electing (failover_of core m).state && (campaign_epoch core m == core.kept.current)

-- With the own run id, which asks for a vote, while a failover runs. In the profile of Redis while votes are awaited alone: a vote that doesn't count is stored, too,
-- and puts the campaign of whoever gives it off
abbrev pub ask_candidate : Plan → Core → (m : ℕ) → Option RunId
ask_candidate plan core m = if by_profile plan.profile (is_failing_over core m) (awaits_votes core m) then Some (me plan) else None

abbrev pub ask_frames : Plan → (m : ℕ) → Option RunId → (place : ℕ) → PeerState → List Frame
ask_frames plan m candidate place peer = frame_if (not (place == plan.place)) (AskTo place m candidate)

abbrev pub ask_part : Plan → (m now : ℕ) → (started : Bool) → Core → Part
ask_part plan m now started core =
    part_if
    (is_asking plan core m now && is_ask_due started (master_of core m).ask_sent now)
    core
    (λ c. puts
    (with_master c m (record (master_of c m) { ask_sent = Some now }))
    (frames_from (ask_frames plan m (ask_candidate plan c m)) 0 c.peers))

-- The tick

abbrev pub odown_kept : Plan → (m now : ℕ) → Core → Core
odown_kept plan m now core =
    with_master core m (record (master_of core m) {
      odown = is_odown_at plan core m now;
      odown_since = since_after (is_odown_at plan core m now) now (master_of core m).odown_since;
    })

-- whether the master is objectively down, and what that does to a failover
abbrev pub odown_part : Plan → (m now : ℕ) → Core → Part
odown_part plan m now core = quiet (let_go plan m now (odown_kept plan m now core))

-- a start where one is due, a row where a failover runs, the questions
abbrev pub failover_part : Plan → (m now : ℕ) → Core → Part
failover_part plan m now core =
    let started = starts_now plan core m now in
    then_part
    (then_part (start_part plan m now core) (λ c. part_if (is_failing_over c m) c (row_part plan m now)))
    (ask_part plan m now started)

-- in TILT nothing is judged
abbrev pub judging_part : Plan → (m now : ℕ) → Core → Part
judging_part plan m now core =
    part_if (not (is_tilted core)) core (λ c. then_part (odown_part plan m now c) (failover_part plan m now))

abbrev pub master_part : Plan → (m now : ℕ) → Core → Part
master_part plan m now core =
    then_part (then_part (peers_part plan m now core) (nodes_part plan m now)) (judging_part plan m now)

abbrev pub with_reading : (now random : ℕ) → Core → Core
with_reading now random core = record core { clock = turned_at now core.clock; random = random }

-- a tick of a master that isn't in the roster is a turn of the clock alone
abbrev pub tick : Plan → (m random now : ℕ) → Core → Part
tick plan m random now core =
    part_if (nat_lt m (master_count plan)) (with_reading now random core) (master_part plan m now)
