-- What a Sentinel keeps: what its file is to hold, and what it heard, found and sent since its start.
use Rattle.std.specs.Prelude.{ℕ, max, Bool, true, false, not, ◌&&◌, ◌||◌, nat_lt, nat_le, is_some, unwrap_or, Option, Some, None, List, length, map, position, replicate, slice_index_or, slice_set, ◌==◌, if◌then◌else◌}
use Rattle.ballot_law.specs.declared.addresses.Addr.{Addr}
use Rattle.ballot_law.specs.declared.cards.Card.{Card}
use Rattle.ballot_law.specs.declared.cards.Kept.{Kept}
use Rattle.ballot_law.specs.declared.hearings.HeardVote.{HeardVote}
use Rattle.ballot_law.specs.declared.hearings.DownReport.{DownReport}
use Rattle.ballot_law.specs.declared.records.Win.{Win}
use Rattle.ballot_law.specs.declared.replies.DataRole.{DataRole}
use Rattle.ballot_law.specs.declared.replies.DataRole.TheVariants.{Master, Replica}
use Rattle.ballot_law.specs.declared.replies.Info.{Info}
use Rattle.ballot_law.specs.Ballots.{card_of, kept_of}
use Rattle.ballot_law.specs.Clocks.{age, clock}
use Rattle.ballot_law.specs.Orders.{same_addr}
use Rattle.ballot_law.specs.Reports.{is_odown_by, kept_at}
use Rattle.ballot_law.specs.Rosters.{MasterPlan, master_at}
use Rattle.ballot_law.specs.Tilts.{Turned, opened_clock}
use Rattle.ballot_law.specs.Watches.{WatchState, opened_at, down_since_of, earlier_of, passed_since}
use Rattle.failover_states.specs.declared.periods.TheConstants.{ELECTION_MS}
use Rattle.failover_states.specs.declared.states.FailoverState.{FailoverState}
use Rattle.failover_states.specs.declared.states.FailoverState.TheVariants.{Idle, WaitStart, SelectReplica, SendPromotion, WaitPromotion, ReconfReplicas, UpdateConfig}
use Rattle.failover_states.specs.Calls.{epoch_of}
use Rattle.failover_states.specs.Failovers.{Failover}
use Rattle.failover_states.specs.Replicas.{untouched}
use Rattle.sentinel_rules.specs.declared.assumed.TheConstants.{ASSUMED_INFO}
use Rattle.sentinel_rules.specs.declared.contacts.Contact.{Contact}
use Rattle.sentinel_rules.specs.Contacts.{new_contact}
use Rattle.sentinel_rules.specs.declared.periods.TheConstants.{HOLD_MS, WISH_MS}
use Rattle.sentinel_rules.specs.declared.profiles.Profile.{Profile}
use Rattle.sentinel_rules.specs.declared.profiles.Profile.TheVariants.{Strict, Redis}
use Rattle.sentinel_rules.specs.Plans.{Plan, roster_of, group_size, settings_at, reboot_ms, nodes_of, node_place}

-- of a data node: its watch, when its last valid reply to a PING came, its last INFO and when it came, when it was last sent a
-- PING, an INFO and a hello, since when it has been wrong: as a master, or with another master; and whether of a connection to it was last heard that it was lost, and since when
-- it has been loading after a restart. For those who ask: its connection, since when it has said that it has its role, and whether it may be told to clients
pub record NodeState : Type 0 where
  pub watch : WatchState
  pub last_ping : Option ℕ
  pub info : Option Info
  pub info_at : Option ℕ
  pub ping_sent : Option ℕ
  pub info_sent : Option ℕ
  pub hello_sent : Option ℕ
  pub wrong_role : Option ℕ
  pub wrong_address : Option ℕ
  pub lost : Bool
  pub rebooted : Option ℕ
  pub contact : Contact
  pub role_since : ℕ
  pub announced : Bool

-- of a Sentinel: its watch, when it was last sent a PING, and whether of a connection to it was last heard that it was lost. For those who ask:
-- its connection, and when its last hello came
pub record PeerState : Type 0 where
  pub watch : WatchState
  pub ping_sent : Option ℕ
  pub lost : Bool
  pub contact : Contact
  pub greeted : ℕ

-- of a master: the votes heard, by the voter's place; the failover; what the other Sentinels last said, by place; its nodes; when
-- the other Sentinels were last asked; whether it was objectively down at its last tick; when a client last asked that it hand over to a replica; the epoch of the
-- campaign for that, once it has begun; whether in the last campaign who was told to bring the new master about refused; and of each node when it last was told in a
-- failover that it is the master, and didn't become it. For those who ask
-- since when it has been objectively down
pub record MasterState : Type 0 where
  pub heard : List (Option HeardVote)
  pub failover : Failover
  pub reports : List (Option DownReport)
  pub nodes : List NodeState
  pub ask_sent : Option ℕ
  pub odown : Bool
  pub odown_since : Option ℕ
  pub wish : Option ℕ
  pub planned : Option ℕ
  pub refused : Bool
  pub failed : List (Option ℕ)

-- kept: what the file is to hold. random: that of the last tick. won: the election that the last input brought
pub record Core : Type 0 where
  pub kept : Kept
  pub masters : List MasterState
  pub peers : List PeerState
  pub clock : Turned
  pub random : ℕ
  pub won : Option Win

-- At the start

abbrev pub new_node : (now : ℕ) → NodeState
new_node now =
    record {
      watch = opened_at now;
      last_ping = None;
      info = None;
      info_at = None;
      ping_sent = None;
      info_sent = None;
      hello_sent = None;
      wrong_role = None;
      wrong_address = None;
      lost = false;
      rebooted = None;
      contact = new_contact now;
      role_since = now;
      announced = true;
    }

abbrev pub new_peer : (now : ℕ) → PeerState
new_peer now = record { watch = opened_at now; ping_sent = None; lost = false; contact = new_contact now; greeted = now }

abbrev pub no_failover : (nodes : ℕ) → Failover
no_failover nodes = record { state = Idle; entered = 0; last_start = None; replicas = replicate nodes untouched; moment = 0 }

abbrev pub new_master : (sentinels nodes now : ℕ) → MasterState
new_master sentinels nodes now =
    record {
      heard = replicate sentinels None;
      failover = no_failover nodes;
      reports = replicate sentinels None;
      nodes = replicate nodes (new_node now);
      ask_sent = None;
      odown = false;
      odown_since = None;
      wish = None;
      planned = None;
      refused = false;
      failed = replicate nodes None;
    }

-- what the file holds, and nothing else: no vote heard, no report, no failover
abbrev pub opened : Plan → (now : ℕ) → Core
opened plan now =
    let at = clock now in
    record {
      kept = plan.conf.kept;
      masters = map (λ (master : MasterPlan). new_master (group_size plan) (length master.nodes) at) (roster_of plan).masters;
      peers = replicate (group_size plan) (new_peer at);
      clock = opened_clock at;
      random = 0;
      won = None;
    }

-- Reading

abbrev pub no_node : NodeState
no_node = new_node 0

abbrev pub no_peer : PeerState
no_peer = new_peer 0

abbrev pub no_master : MasterState
no_master = new_master 0 0 0

abbrev pub master_of : Core → (m : ℕ) → MasterState
master_of core m = slice_index_or core.masters m no_master

abbrev pub node_of : Core → (m k : ℕ) → NodeState
node_of core m k = slice_index_or (master_of core m).nodes k no_node

abbrev pub peer_of : Core → (place : ℕ) → PeerState
peer_of core place = slice_index_or core.peers place no_peer

abbrev pub failover_of : Core → (m : ℕ) → Failover
failover_of core m = (master_of core m).failover

abbrev pub is_at : Option ℕ → (k : ℕ) → Bool
is_at None k = false
is_at (Some place) k = k == place

-- the place of the node that the configuration names
abbrev pub card_place : Plan → Core → (m : ℕ) → ℕ
card_place plan core m = node_place plan m (card_of core.kept m).addr

abbrev pub is_idle : FailoverState → Bool
is_idle Idle = true
is_idle (WaitStart epoch) = false
is_idle (SelectReplica epoch) = false
is_idle (SendPromotion epoch choice) = false
is_idle (WaitPromotion epoch choice former) = false
is_idle (ReconfReplicas epoch choice former) = false
is_idle (UpdateConfig epoch choice) = false

abbrev pub is_failing_over : Core → (m : ℕ) → Bool
is_failing_over core m = not (is_idle (failover_of core m).state)

abbrev pub is_tilted : Core → Bool
is_tilted core = is_some core.clock.entered

-- Switches that a client asked for

-- it was so many milliseconds ago, at most
abbrev pub is_recent : Option ℕ → (ms now : ℕ) → Bool
is_recent None ms now = false
is_recent (Some at) ms now = nat_le (age at now) ms

-- a client asked for a switch a moment ago, and its campaign is to begin
abbrev pub is_wished : Core → (m now : ℕ) → Bool
is_wished core m now = is_recent (master_of core m).wish WISH_MS now && not (is_some (master_of core m).planned)

-- the moment is yet to come, and no later than any that is kept: a later one is of a clock that was set back
abbrev pub is_held : Option ℕ → (now : ℕ) → Bool
is_held None now = false
is_held (Some from) now = nat_lt now from && nat_le (age now from) HOLD_MS

-- a failover runs, or a switch was asked for within the time of an election
abbrev pub is_in_progress : Core → (m now : ℕ) → Bool
is_in_progress core m now = is_failing_over core m || is_recent (master_of core m).wish ELECTION_MS now

-- the own campaign is put off, after a failover or a vote
abbrev pub is_put_off : Core → (m now : ℕ) → Bool
is_put_off core m now = is_held (failover_of core m).last_start now

abbrev pub is_same_epoch : Option ℕ → Option ℕ → Bool
is_same_epoch None other = false
is_same_epoch (Some epoch) None = false
is_same_epoch (Some epoch) (Some other) = epoch == other

-- the failover that runs is of a switch that a client asked for
abbrev pub is_planned : Core → (m : ℕ) → Bool
is_planned core m = is_same_epoch (epoch_of (failover_of core m).state) (master_of core m).planned

-- and the master didn't refuse to hand over in it
unfoldable pub is_unrefused : Core → (m : ℕ) → Bool
is_unrefused core m = is_planned core m && not (master_of core m).refused

abbrev pub is_awaiting : FailoverState → Bool
is_awaiting Idle = false
is_awaiting (WaitStart epoch) = false
is_awaiting (SelectReplica epoch) = false
is_awaiting (SendPromotion epoch choice) = false
is_awaiting (WaitPromotion epoch choice former) = true
is_awaiting (ReconfReplicas epoch choice former) = false
is_awaiting (UpdateConfig epoch choice) = false

-- and its choice is awaited
abbrev pub is_handed : Core → (m : ℕ) → Bool
is_handed core m = is_planned core m && is_awaiting (failover_of core m).state

-- and who was told to bring that about refused
abbrev pub is_refused : Core → (m : ℕ) → Bool
is_refused core m = is_awaiting (failover_of core m).state && (master_of core m).refused

-- What nodes say of themselves

abbrev pub is_master_role : DataRole → Bool
is_master_role Master = true
is_master_role Replica = false

abbrev pub says_master : Option Info → Bool
says_master None = false
says_master (Some info) = is_master_role info.role

abbrev pub says_replica : Option Info → Bool
says_replica None = false
says_replica (Some info) = not (is_master_role info.role)

-- What is down

-- Redis's master-reboot-down-after-period: a master that was started again and loads its data is well for this long, and then down. Where no period is set, as in
-- each strict plan, it is well for as long as it loads
abbrev pub loading_since : Option ℕ → (period now : ℕ) → Option ℕ
loading_since since period now = if period == 0 then None else passed_since since period now

abbrev pub reboot_down_since : Plan → Core → (m now k : ℕ) → Option ℕ
reboot_down_since plan core m now k =
    if k == card_place plan core m then loading_since (node_of core m k).rebooted (reboot_ms plan m) now else None

-- the place of the node at an address
abbrev pub place_followed : Plan → (m : ℕ) → Option Addr → Option ℕ
place_followed plan m None = None
place_followed plan m (Some addr) = position (same_addr addr) (nodes_of plan m)

-- since when the node at a place has been silent for too long
abbrev pub silent_since : Plan → Core → (m now : ℕ) → Option ℕ → Option ℕ
silent_since plan core m now None = None
silent_since plan core m now (Some k) = down_since_of (node_of core m k).watch now (settings_at plan m).after_ms false

abbrev pub later_of : Option ℕ → Option ℕ → Option ℕ
later_of None b = None
later_of (Some a) None = None
later_of (Some a) (Some b) = Some (max a b)

-- In Redis a master that says that it is a replica is well for 20 seconds longer than one that is silent. In the other profile it is down as soon as one that is
-- silent, where the node that it follows is down: it handed over to a node that died, and nobody is the master
abbrev pub stray_down_since : Profile → Plan → Core → (m now k : ℕ) → Option ℕ
stray_down_since Strict plan core m now k = None
stray_down_since Redis plan core m now k =
    if k == card_place plan core m then later_of (node_of core m k).watch.replica_since
    (silent_since plan core m now (place_followed plan m (unwrap_or (node_of core m k).info ASSUMED_INFO).master))
    else None

-- since when a data node has been subjectively down; that of the configuration also by reporting itself a replica, or by loading for too long
abbrev pub node_down_since : Plan → Core → (m now k : ℕ) → Option ℕ
node_down_since plan core m now k =
    earlier_of (earlier_of (down_since_of (node_of core m k).watch now (settings_at plan m).after_ms (k == card_place plan core m))
    (reboot_down_since plan core m now k))
    (stray_down_since plan.profile plan core m now k)

abbrev pub is_node_down : Plan → Core → (m now k : ℕ) → Bool
is_node_down plan core m now k = is_some (node_down_since plan core m now k)

-- a master is down where the node of its configuration is
abbrev pub is_master_down : Plan → Core → (m now : ℕ) → Bool
is_master_down plan core m now = is_node_down plan core m now (card_place plan core m)

-- a Sentinel goes by the first master's setting
abbrev pub peer_down_since : Plan → Core → (now place : ℕ) → Option ℕ
peer_down_since plan core now place = down_since_of (peer_of core place).watch now (settings_at plan 0).after_ms false

abbrev pub is_peer_down : Plan → Core → (now place : ℕ) → Bool
is_peer_down plan core now place = is_some (peer_down_since plan core now place)

abbrev pub is_odown_at : Plan → Core → (m now : ℕ) → Bool
is_odown_at plan core m now =
    is_odown_by (is_master_down plan core m now) (kept_at (master_of core m).reports) (length (master_of core m).reports) now
    (master_at (roster_of plan) m).quorum

-- Writing

abbrev pub with_master : Core → (m : ℕ) → MasterState → Core
with_master core m master = record core { masters = slice_set core.masters m master }

abbrev pub with_node : Core → (m k : ℕ) → NodeState → Core
with_node core m k node = with_master core m (record (master_of core m) { nodes = slice_set (master_of core m).nodes k node })

abbrev pub with_failover : Core → (m : ℕ) → Failover → Core
with_failover core m failover = with_master core m (record (master_of core m) { failover = failover })

abbrev pub with_current : Core → (epoch : ℕ) → Core
with_current core epoch = record core { kept = record core.kept { current = epoch } }

abbrev pub with_card : Core → (m : ℕ) → Card → Core
with_card core m card =
    record core { kept = record core.kept { masters = slice_set core.kept.masters m (record (kept_of core.kept m) { card = card }) } }
