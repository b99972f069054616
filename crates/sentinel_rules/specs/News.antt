-- What a Sentinel hears: hellos, answers of other Sentinels, replies to PING, INFO.
use Rattle.std.specs.Prelude.{ℕ, max, Bool, true, false, not, ◌&&◌, nat_lt, ◌==◌, Option, Some, None, unwrap_or, List, [], ◌∷◌, ◌++◌, map, slice_set, Result, Ok, Err, if◌then◌else◌}
use Rattle.std.specs.List.{list_any}
use Rattle.ballot_law.specs.declared.addresses.Addr.{Addr}
use Rattle.ballot_law.specs.declared.addresses.RunId.{RunId}
use Rattle.ballot_law.specs.declared.cards.Card.{Card}
use Rattle.ballot_law.specs.declared.messages.NodeName.{NodeName}
use Rattle.ballot_law.specs.declared.messages.NodeName.TheVariants.{SentinelAt, StoreAt, ClientAt, PortAt}
use Rattle.ballot_law.specs.declared.replies.Hello.{Hello}
use Rattle.ballot_law.specs.declared.replies.Info.{Info}
use Rattle.ballot_law.specs.declared.replies.PingReply.{PingReply}
use Rattle.ballot_law.specs.declared.replies.PingReply.TheVariants.{Pong}
use Rattle.ballot_law.specs.Ballots.{card_of}
use Rattle.ballot_law.specs.Clocks.{age}
use Rattle.ballot_law.specs.Orders.{same_addr, same_id}
use Rattle.ballot_law.specs.PingReplies.{is_valid}
use Rattle.ballot_law.specs.Rosters.{master_named}
use Rattle.ballot_law.specs.Watches.{after_reply, after_role, after_change}
use Rattle.ballot_law.specs.Reports.{with_report, without_reports}
use Rattle.ballot_law.specs.VotesHeard.{with_hearing}
use Rattle.failover_states.specs.declared.states.FailoverState.{FailoverState}
use Rattle.failover_states.specs.declared.states.FailoverState.TheVariants.{Idle, WaitStart, SelectReplica, SendPromotion, WaitPromotion, ReconfReplicas, UpdateConfig}
use Rattle.failover_states.specs.Failovers.{ended}
use Rattle.failover_states.specs.Calls.{promoted, reconfigured, choice_of as chosen_place}
use Rattle.node_texts.specs.declared.faults.TextFault.{TextFault}
use Rattle.sentinel_rules.specs.declared.periods.TheConstants.{WRONG_ROLE_MS}
use Rattle.sentinel_rules.specs.declared.profiles.Profile.{Profile}
use Rattle.sentinel_rules.specs.declared.frames.Frame.{Frame}
use Rattle.sentinel_rules.specs.declared.frames.Frame.TheVariants.{HelloTo, PromoteTo, FollowTo, NoteOf}
use Rattle.ballot_law.specs.declared.node_places.NodePlace.{NodePlace}
use Rattle.sentinel_rules.specs.Plans.{Plan, roster_of, me, group_size, master_count, settings_at, nodes_of, node_name, node_named}
use Rattle.sentinel_rules.specs.States.{Core, is_master_role, says_master, MasterState, NodeState, PeerState, master_of, node_of, peer_of, failover_of, card_place, is_failing_over, is_tilted, is_planned, is_awaiting, is_at, is_master_down, with_master, with_node, with_failover, with_current, with_card}
use Rattle.sentinel_rules.specs.Parts.{Part, quiet, puts, part_if, frame_if}
use Rattle.sentinel_rules.specs.Contacts.{new_contact, contact_replied, role_since_after}
use Rattle.sentinel_rules.specs.Profiles.{by_profile, is_redis, start_at_new_address, candidate_place}

-- A configuration is taken

-- each node is sent a hello at the next tick
abbrev pub hello_soon : NodeState → NodeState
hello_soon node = record node { hello_sent = None }

-- at a new address the nodes have nothing to be wrong about yet
abbrev pub moved : (now : ℕ) → NodeState → NodeState
moved now node = record node { watch = after_change now node.watch; hello_sent = None; wrong_role = None; wrong_address = None; rebooted = None }

-- what a node told by INFO is forgotten, and INFO is due at once; for those who ask, its times begin now. What the rules go by stays: since when it has been silent,
-- its last reply, and whether the connection to it was lost; and whether it may be told to clients, until it tells again
abbrev pub forgotten : (now : ℕ) → NodeState → NodeState
forgotten now node = record node { info = None; info_at = None; info_sent = None; contact = new_contact now; role_since = now }

-- Redis makes all that it keeps of the nodes anew at a new address, so that the row of a former master that is dead doesn't go on saying that it is a master. A
-- strict Sentinel keeps what they told
abbrev pub relocated : Profile → (now : ℕ) → NodeState → NodeState
relocated profile now node = by_profile profile (moved now node) (forgotten now (moved now node))

abbrev pub at_same_address : MasterState → MasterState
at_same_address master = record master { nodes = map hello_soon master.nodes }

-- a switch that was asked for, and not begun, is another one's: it is kept when it was asked for, since none is begun so soon after it, and as its own epoch one that no
-- campaign has
abbrev pub planned_after : (planned wish : Option ℕ) → Option ℕ
planned_after None None = None
planned_after None (Some at) = Some 0
planned_after (Some epoch) wish = Some epoch

abbrev pub at_new_address : Profile → (now : ℕ) → MasterState → MasterState
at_new_address profile now master =
    record master {
      nodes = map (relocated profile now) master.nodes;
      reports = without_reports master.reports;
      failover = record master.failover { last_start = start_at_new_address profile master.failover.last_start };
      planned = planned_after master.planned master.wish;
    }

-- the hellos are due at once; where the address changes too, what was said of the old one is forgotten, by the profile when this Sentinel last began too, and a
-- note tells of it
abbrev pub card_taken : Plan → (m now : ℕ) → Card → Core → Part
card_taken plan m now card core =
    let old = (card_of core.kept m).addr in
    if same_addr old card.addr then quiet (with_card (with_master core m (at_same_address (master_of core m))) m card)
    else puts (with_card (with_master core m (at_new_address plan.profile now (master_of core m))) m card) (NoteOf m old ∷ [])

-- Hellos

-- it comes from another Sentinel of the roster
abbrev pub is_heeded : Plan → Hello → Bool
is_heeded plan hello =
    list_any (λ member. same_id hello.id member.id) (roster_of plan).sentinels && not (same_id hello.id (me plan))

-- its configuration has a greater epoch, and its address is one of the master's nodes
abbrev pub is_newer : Plan → Core → (m : ℕ) → Card → Bool
is_newer plan core m card = nat_lt (card_of core.kept m).epoch card.epoch && list_any (same_addr card.addr) (nodes_of plan m)

abbrev pub raised_to : (epoch : ℕ) → Core → Core
raised_to epoch core = with_current core (max core.kept.current epoch)

-- the configuration is taken, the current epoch is not below its epoch, and a failover of the master ends
abbrev pub adopted : Plan → (m now : ℕ) → Card → Core → Part
adopted plan m now card core =
    card_taken plan m now card (with_failover (raised_to card.epoch core) m (ended (failover_of core m)))

-- a greater current epoch raises the own one; a newer configuration is adopted
abbrev pub hello_of_known : Plan → (m now : ℕ) → Hello → Core → Part
hello_of_known plan m now hello core =
    let raised = raised_to hello.current core in
    part_if (is_newer plan raised m hello.card) raised (adopted plan m now hello.card)

-- when its last hello came is kept for those who ask
abbrev pub peer_greeted : (now : ℕ) → PeerState → PeerState
peer_greeted now peer = record peer { greeted = now }

abbrev pub greeted_at : (now : ℕ) → Option ℕ → Core → Core
greeted_at now None core = core
greeted_at now (Some place) core = record core { peers = slice_set core.peers place (peer_greeted now (peer_of core place)) }

abbrev pub greeted : Plan → (now : ℕ) → Hello → Core → Core
greeted plan now hello core = greeted_at now (candidate_place plan (Some hello.id)) core

abbrev pub hello_heeded : Plan → (now : ℕ) → Option ℕ → Hello → Core → Part
hello_heeded plan now None hello core = quiet core
hello_heeded plan now (Some m) hello core = hello_of_known plan m now hello (greeted plan now hello core)

abbrev pub hello_read : Plan → (now : ℕ) → Result Hello TextFault → Core → Part
hello_read plan now (Err fault) core = quiet core
hello_read plan now (Ok hello) core =
    part_if (is_heeded plan hello) core (hello_heeded plan now (master_named (roster_of plan) hello.master) hello)

-- Answers to the questions whether a master is down

-- what is said of the address that the configuration has
abbrev pub reported : (voter m now : ℕ) → Addr → (down : Bool) → Core → Core
reported voter m now addr down core =
    if same_addr addr (card_of core.kept m).addr
    then with_master core m (record (master_of core m) { reports = with_report voter (record { down = down; at = now }) (master_of core m).reports })
    else core

-- a vote is heard
abbrev pub vote_heard : (voter m epoch : ℕ) → Option RunId → Core → Core
vote_heard voter m epoch None core = core
vote_heard voter m epoch (Some leader) core =
    with_master core m (record (master_of core m) { heard = with_hearing voter epoch leader (master_of core m).heard })

-- another Sentinel of the roster answers about a master of it
abbrev pub answer_of : Plan → (voter m now : ℕ) → Addr → (down : Bool) → Option RunId → (epoch : ℕ) → Core → Core
answer_of plan voter m now addr down leader epoch core =
    if nat_lt voter (group_size plan) && not (voter == plan.place) && nat_lt m (master_count plan)
    then vote_heard voter m epoch leader (reported voter m now addr down core)
    else core

abbrev pub answered : Plan → (voter : NodeName) → (m now : ℕ) → Addr → (down : Bool) → Option RunId → (epoch : ℕ) → Core → Core
answered plan (SentinelAt voter) m now addr down leader epoch core = answer_of plan voter m now addr down leader epoch core
answered plan (StoreAt number) m now addr down leader epoch core = core
answered plan (ClientAt number) m now addr down leader epoch core = core
answered plan (PortAt number) m now addr down leader epoch core = core

-- Replies to PING

-- A lost connection stands until its node gives a valid reply: an error, such as that of a node that wants a password first, doesn't show that it serves this Sentinel
abbrev pub lost_after : PingReply → (lost : Bool) → Bool
lost_after reply lost = if is_valid reply then false else lost

-- who answers that it loads its data goes on loading
abbrev pub loading_after : PingReply → Option ℕ → Option ℕ
loading_after Pong since = None
loading_after _ since = since

abbrev pub node_pinged : (now : ℕ) → PingReply → NodeState → NodeState
node_pinged now reply node =
    record node {
      watch = after_reply now reply node.watch;
      last_ping = if is_valid reply then Some now else node.last_ping;
      lost = lost_after reply node.lost;
      rebooted = loading_after reply node.rebooted;
      contact = contact_replied now (is_valid reply) node.contact;
    }

abbrev pub peer_pinged : (now : ℕ) → PingReply → PeerState → PeerState
peer_pinged now reply peer =
    record peer { watch = after_reply now reply peer.watch; lost = lost_after reply peer.lost; contact = contact_replied now (is_valid reply) peer.contact }

abbrev pub pinged_at : (now : ℕ) → PingReply → Option NodePlace → Core → Core
pinged_at now reply None core = core
pinged_at now reply (Some at) core = with_node core at.master at.place (node_pinged now reply (node_of core at.master at.place))

-- a reply of a data node, or of another Sentinel
abbrev pub pinged : Plan → (node : NodeName) → (now : ℕ) → PingReply → Core → Core
pinged plan (SentinelAt place) now reply core =
    if nat_lt place (group_size plan) && not (place == plan.place)
    then record core { peers = slice_set core.peers place (peer_pinged now reply (peer_of core place)) }
    else core
pinged plan (StoreAt number) now reply core = pinged_at now reply (node_named plan (StoreAt number)) core
pinged plan (ClientAt number) now reply core = core
pinged plan (PortAt number) now reply core = core

-- Connections that were lost

abbrev pub node_lost : NodeState → NodeState
node_lost node = record node { lost = true }

abbrev pub peer_lost : PeerState → PeerState
peer_lost peer = record peer { lost = true }

abbrev pub lost_at : Option NodePlace → Core → Core
lost_at None core = core
lost_at (Some at) core = with_node core at.master at.place (node_lost (node_of core at.master at.place))

-- one to a data node, or to another Sentinel
abbrev pub connection_lost : Plan → (node : NodeName) → Core → Core
connection_lost plan (SentinelAt place) core =
    if nat_lt place (group_size plan) && not (place == plan.place)
    then record core { peers = slice_set core.peers place (peer_lost (peer_of core place)) }
    else core
connection_lost plan (StoreAt number) core = lost_at (node_named plan (StoreAt number)) core
connection_lost plan (ClientAt number) core = core
connection_lost plan (PortAt number) core = core

-- Redis knows of each node whether it has a connection to it: it promotes none without, and shows it. A strict Sentinel knows what nodes say, and nothing of connections
abbrev pub disconnected : Plan → (node : NodeName) → Core → Core
disconnected plan node core = if is_redis plan.profile then connection_lost plan node core else core

-- Nodes that refuse to hand over, or to be the master

-- who was told to bring the new master about: in a switch that was asked for the master, else the choice
abbrev pub order_taker : Plan → Core → (m : ℕ) → Option ℕ
order_taker plan core m = if is_planned core m then Some (card_place plan core m) else chosen_place (failover_of core m).state

abbrev pub refusal_at : Plan → Option NodePlace → Core → Core
refusal_at plan None core = core
refusal_at plan (Some at) core =
    if is_awaiting (failover_of core at.master).state && is_at (order_taker plan core at.master) at.place
    then with_master core at.master (record (master_of core at.master) { refused = true })
    else core

-- it answered with an error: the failover ends at the next tick
abbrev pub refusal_heard : Plan → (node : NodeName) → Core → Core
refusal_heard plan node core = if is_redis plan.profile then refusal_at plan (node_named plan node) core else core

-- INFO

-- a node that tells another run id than before was started again
abbrev pub is_another : Option RunId → Option RunId → Bool
is_another None after = false
is_another (Some before) None = false
is_another (Some before) (Some after) = not (same_id before after)

abbrev pub rebooted_after : (now : ℕ) → Option RunId → Option Info → Option ℕ → Option ℕ
rebooted_after now id None since = since
rebooted_after now id (Some before) since = if is_another before.id id then Some now else since

-- the INFO, its moment and its role are kept, whether the node was started again, and for those who ask since when it has said its role. Who tells INFO serves this
-- Sentinel, as with a valid reply: one that wants a password first answers with an error, which is no INFO
abbrev pub with_info : (now : ℕ) → Info → NodeState → NodeState
with_info now info node =
    record node {
      info = Some info;
      info_at = Some now;
      watch = after_role now info.role node.watch;
      lost = false;
      rebooted = rebooted_after now info.id node.info node.rebooted;
      role_since = role_since_after now info.role node.info node.role_since;
    }

-- In the profile of Redis the new master publishes a hello at once, so that the others needn't wait for the next tick. After a switch that was asked for the clients
-- of both nodes are sent away then, so that they ask for the master anew: these orders change nothing else at the nodes
abbrev pub closing_frames : Plan → (m heir old : ℕ) → (planned : Bool) → List Frame
closing_frames plan m heir old planned =
    frame_if (is_redis plan.profile) (HelloTo (node_name plan m heir) m)
    ++ (frame_if planned (PromoteTo (node_name plan m heir)) ++ frame_if planned (FollowTo (node_name plan m old) m))

-- what is put out behind a part
abbrev pub with_frames : Part → List Frame → Part
with_frames part frames = record { core = part.core; frames = part.frames ++ frames }

-- the chosen replica says that it is the master: the campaign's epoch and its address are the configuration
abbrev pub promotion : Plan → (m k now : ℕ) → Info → FailoverState → Core → Part
promotion plan m k now info (WaitPromotion epoch choice former) core =
    part_if
    ((k == choice.place) && is_master_role info.role)
    core
    (λ c. with_frames
    (card_taken plan m now (record { epoch = epoch; addr = choice.addr })
    (with_failover c m (promoted (WaitPromotion epoch choice former) (record (failover_of c m) { moment = now }))))
    (closing_frames plan m k (card_place plan c m) (is_planned c m)))
promotion plan m k now info state core = quiet core

abbrev pub follows : Option Addr → Addr → Bool
follows None addr = false
follows (Some master) addr = same_addr master addr

abbrev pub follows_another : Option Addr → Addr → Bool
follows_another None addr = false
follows_another (Some master) addr = not (same_addr master addr)

-- a replica that was told to follow the new master does, and its link is up
abbrev pub has_followed : Info → Addr → Bool
has_followed info addr = not (is_master_role info.role) && follows info.master addr && info.link_up

abbrev pub reconfiguration : (m k : ℕ) → Info → Core → Part
reconfiguration m k info core =
    part_if
    (has_followed info (card_of core.kept m).addr)
    core
    (λ c. quiet (with_failover c m (reconfigured (failover_of c m).state (failover_of c m) k)))

abbrev pub wrong_since : (is_wrong : Bool) → Option ℕ → (now : ℕ) → Option ℕ
wrong_since is_wrong since now = if is_wrong then Some (unwrap_or since now) else None

abbrev pub is_overdue : Option ℕ → (bound now : ℕ) → Bool
is_overdue None bound now = false
is_overdue (Some since) bound now = nat_lt bound (age since now)

-- the node of the configuration is up, and says that it is a master
abbrev pub can_be_followed : Plan → Core → (m now : ℕ) → Bool
can_be_followed plan core m now =
    not (is_master_down plan core m now) && says_master (node_of core m (card_place plan core m)).info

-- since when a node is wrong in each way
pub record Wrong : Type 0 where
  pub role : Option ℕ
  pub address : Option ℕ

abbrev pub wrong_of : (now : ℕ) → Info → Addr → NodeState → Wrong
wrong_of now info addr node =
    record {
      role = wrong_since (is_master_role info.role) node.wrong_role now;
      address = wrong_since (not (is_master_role info.role) && follows_another info.master addr) node.wrong_address now;
    }

-- wrong for longer than may be, in one way or in the other
abbrev pub is_role_overdue : (now : ℕ) → Wrong → Bool
is_role_overdue now wrong = is_overdue wrong.role WRONG_ROLE_MS now

abbrev pub is_address_overdue : (timeout now : ℕ) → Wrong → Bool
is_address_overdue timeout now wrong = is_overdue wrong.address timeout now

-- its time starts anew where it is told
abbrev pub anew : (told : Bool) → (now : ℕ) → Option ℕ → Option ℕ
anew told now since = if told then Some now else since

-- a node that has long been wrong is told to follow the configuration's node
abbrev pub correction : Plan → (m k now : ℕ) → Info → Core → Part
correction plan m k now info core =
    let wrong = wrong_of now info (card_of core.kept m).addr (node_of core m k) in
    let can = can_be_followed plan core m now in
    let role_told = is_role_overdue now wrong && can in
    let address_told = is_address_overdue (settings_at plan m).timeout now wrong && can in
    puts
    (with_node core m k (record (node_of core m k) { wrong_role = anew role_told now wrong.role; wrong_address = anew address_told now wrong.address }))
    (frame_if (if role_told then true else address_told) (FollowTo (node_name plan m k) m))

abbrev pub is_reconfiguring : FailoverState → Bool
is_reconfiguring Idle = false
is_reconfiguring (WaitStart epoch) = false
is_reconfiguring (SelectReplica epoch) = false
is_reconfiguring (SendPromotion epoch choice) = false
is_reconfiguring (WaitPromotion epoch choice former) = false
is_reconfiguring (ReconfReplicas epoch choice former) = true
is_reconfiguring (UpdateConfig epoch choice) = false

-- what the failover waits for, or where none runs whether the node is wrong
abbrev pub judged : Plan → (m k now : ℕ) → Info → Core → Part
judged plan m k now info core =
    if is_failing_over core m
    then (if is_reconfiguring (failover_of core m).state then reconfiguration m k info core
    else promotion plan m k now info (failover_of core m).state core)
    else part_if (not (k == card_place plan core m)) core (correction plan m k now info)

abbrev pub info_kept : (m k now : ℕ) → Info → Core → Core
info_kept m k now info core = with_node core m k (with_info now info (node_of core m k))

-- in TILT nothing is judged
abbrev pub info_at_node : Plan → (m k now : ℕ) → Info → Core → Part
info_at_node plan m k now info core =
    let kept = info_kept m k now info core in part_if (not (is_tilted kept)) kept (judged plan m k now info)

abbrev pub info_of_node : Plan → (now : ℕ) → Option NodePlace → Info → Core → Part
info_of_node plan now None info core = quiet core
info_of_node plan now (Some at) info core = info_at_node plan at.master at.place now info core

-- whether it may be told to clients is kept for those who ask
abbrev pub node_announced : Bool → NodeState → NodeState
node_announced announced node = record node { announced = announced }

abbrev pub announced_at : (announced : Bool) → Option NodePlace → Core → Core
announced_at announced None core = core
announced_at announced (Some at) core = with_node core at.master at.place (node_announced announced (node_of core at.master at.place))

abbrev pub info_read : Plan → (node : NodeName) → (now : ℕ) → Result Info TextFault → (announced : Bool) → Core → Part
info_read plan node now (Err fault) announced core = quiet core
info_read plan node now (Ok info) announced core =
    info_of_node plan now (node_named plan node) info (announced_at announced (node_named plan node) core)
