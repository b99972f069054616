-- The commands of a Sentinel's port, and what they answer.
use Rattle.std.specs.Prelude.{ℕ, suc, zero, ◌+◌, ◌-◌, Bool, true, false, not, ◌&&◌, ◌||◌, nat_lt, nat_le, ◌==◌, is_some, Option, Some, None, unwrap_or, List, [], ◌∷◌, map, length, position, codes, if◌then◌else◌}
use Rattle.std.specs.List.{list_any}
use Rattle.ballot_law.specs.declared.addresses.Addr.{Addr}
use Rattle.ballot_law.specs.declared.addresses.RunId.{RunId}
use Rattle.ballot_law.specs.declared.cards.KeptMaster.{KeptMaster}
use Rattle.ballot_law.specs.declared.cards.Shown.{Shown}
use Rattle.ballot_law.specs.declared.commands.Command.{Command}
use Rattle.ballot_law.specs.declared.commands.Command.TheVariants.{Ping, IsMasterDownByAddr, GetMasterAddrByName, Masters, Master, Replicas, Sentinels, MyId, CkQuorum, Failover, FlushConfig, Subscribe, Info}
use Rattle.ballot_law.specs.declared.messages.Body.{Body}
use Rattle.ballot_law.specs.declared.messages.Body.TheVariants.{Answer, PingText, AddressAnswer, PortReply}
use Rattle.ballot_law.specs.Ballots.{card_of}
use Rattle.ballot_law.specs.Counts.{count_below}
use Rattle.ballot_law.specs.declared.replies.DataRole.TheVariants.{Master as MasterRole, Replica as ReplicaRole}
use Rattle.ballot_law.specs.Clocks.{age}
use Rattle.ballot_law.specs.Orders.{same_addr}
use Rattle.ballot_law.specs.VotesHeard.{kept_at as kept_vote}
use Rattle.ballot_law.specs.Rosters.{master_at, master_listing, master_named, need, id_of, no_member}
use Rattle.resp2.specs.Framing.Frame.{Frame, spelling}
use Rattle.resp2.specs.declared.command.CommandFault.TheVariants.{UnknownCommand}
use Rattle.replica_choice.specs.declared.candidates.Candidate.{Candidate}
use Rattle.port_answers.specs.declared.rows.MasterRow.{MasterRow}
use Rattle.port_answers.specs.declared.rows.ReplicaRow.{ReplicaRow}
use Rattle.port_answers.specs.declared.rows.SentinelRow.{SentinelRow}
use Rattle.port_answers.specs.declared.info_lines.MasterLine.{MasterLine}
use Rattle.port_answers.specs.InfoLines.{section_frame}
use Rattle.port_answers.specs.Answers.{no_such_master, ok_line, in_progress, in_tilt, no_good_replica, id_frame, subscribed, command_fault}
use Rattle.sentinel_rules.specs.declared.assumed.TheConstants.{ASSUMED_INFO}
use Rattle.sentinel_rules.specs.Plans.{Plan, roster_of, me, group_size, master_count, settings_at, nodes_of, addr_at}
use Rattle.sentinel_rules.specs.States.{Core, master_of, node_of, peer_of, with_master, card_place, is_failing_over, is_in_progress, is_put_off, is_tilted, is_node_down, is_master_down, is_peer_down, is_odown_at, failover_of, node_down_since, peer_down_since}
use Rattle.sentinel_rules.specs.Parts.{shown_of}
use Rattle.sentinel_rules.specs.Profiles.{by_profile, candidate_heeded, down_for}
use Rattle.sentinel_rules.specs.Rows.{contact_row, said_row, link_row, stage_of, heard_leader, heard_epoch, is_left_out, places_told, master_frame_by, masters_frame_by, replicas_frame_by, sentinels_frame_by, quorum_reached_by, no_quorum_by}
use Rattle.sentinel_rules.specs.Ticks.{candidates_of, ping_period}
use Rattle.sentinel_rules.specs.Votes.{book_of, requested}

-- what a command leaves, and its answer
pub record Answered : Type 0 where
  pub core : Core
  pub body : Body

abbrev pub unchanged : Core → Body → Answered
unchanged core body = record { core = core; body = body }

-- Questions whether a master is down, and requests for votes

-- the first master whose configuration has the address
abbrev pub master_with_card : List KeptMaster → Addr → Option ℕ
master_with_card masters addr = position (λ (master : KeptMaster). same_addr addr master.card.addr) masters

-- the vote that is kept
abbrev pub vote_answer : (m : ℕ) → Addr → (down : Bool) → Core → Answered
vote_answer m addr down core = unchanged core (Answer m addr down (book_of core m).leader (book_of core m).voted)

abbrev pub asked_at : Plan → (m now : ℕ) → Addr → (epoch : ℕ) → (down : Bool) → Option RunId → Core → Answered
asked_at plan m now addr epoch down None core = unchanged core (Answer m addr down None 0)
asked_at plan m now addr epoch down (Some candidate) core = vote_answer m addr down (requested plan m now epoch candidate core)

-- of an address that no configuration has nothing is said; votes are given in TILT too
abbrev pub asked_of : Plan → (now : ℕ) → Addr → (epoch : ℕ) → Option RunId → Option ℕ → Core → Answered
asked_of plan now addr epoch candidate None core =
    unchanged core (Answer (unwrap_or (master_listing (roster_of plan).masters addr) 0) addr false None 0)
asked_of plan now addr epoch candidate (Some m) core =
    asked_at plan m now addr epoch (is_master_down plan core m now && not (is_tilted core)) candidate core

-- Rows. A Sentinel is sent PINGs by the first master's setting

abbrev pub master_row : Plan → Core → (now m : ℕ) → MasterRow
master_row plan core now m =
    let node = node_of core m (card_place plan core m) in
    record {
      name = (master_at (roster_of plan) m).name;
      addr = (card_of core.kept m).addr;
      down = is_master_down plan core m now;
      odown = is_odown_at plan core m now;
      disconnected = node.lost;
      failing_over = is_failing_over core m;
      replicas = length (nodes_of plan m) - 1;
      others = group_size plan - 1;
      quorum = (master_at (roster_of plan) m).quorum;
      after_ms = (settings_at plan m).after_ms;
      timeout = (settings_at plan m).timeout;
      parallel_syncs = (settings_at plan m).parallel_syncs;
      epoch = (card_of core.kept m).epoch;
      odown_ms = down_for (master_of core m).odown_since now;
      stage = stage_of (failover_of core m).state;
      contact =
          contact_row (ping_period plan m) now node.watch node.contact
          (node_down_since plan core m now (card_place plan core m));
      said = said_row now MasterRole node;
    }

-- a replica that sent no INFO shows priority 100 and offset 0
abbrev pub replica_row : Plan → Core → (now m k : ℕ) → ReplicaRow
replica_row plan core now m k =
    let node = node_of core m k in
    let info = unwrap_or node.info ASSUMED_INFO in
    record {
      addr = addr_at plan m k;
      down = is_node_down plan core m now k;
      disconnected = node.lost;
      priority = info.priority;
      offset = info.offset;
      after_ms = (settings_at plan m).after_ms;
      contact = contact_row (ping_period plan m) now node.watch node.contact (node_down_since plan core m now k);
      said = said_row now ReplicaRole node;
      link = link_row node;
    }

-- as one that watches a master
abbrev pub sentinel_row : Plan → Core → (now m place : ℕ) → SentinelRow
sentinel_row plan core now m place =
    let peer = peer_of core place in
    let given = kept_vote (master_of core m).heard place in
    record {
      id = id_of (roster_of plan) place;
      addr = (Rattle.std.specs.Prelude.slice_index_or (roster_of plan).sentinels place no_member).addr;
      down = is_peer_down plan core now place;
      disconnected = peer.lost;
      masters = master_count plan;
      after_ms = (settings_at plan 0).after_ms;
      hello_ms = age peer.greeted now;
      leader = heard_leader given;
      leader_epoch = heard_epoch given;
      contact = contact_row (ping_period plan 0) now peer.watch peer.contact (peer_down_since plan core now place);
    }

-- the places below a number, but for one
abbrev pub places_but : (one place count : ℕ) → List ℕ
places_but one place count = places_told (λ k. k == one) place count

-- each node but that of the configuration and those that aren't told, by address
abbrev pub replica_rows : Plan → Core → (now m : ℕ) → List ReplicaRow
replica_rows plan core now m = map (replica_row plan core now m) (places_told (is_left_out plan core m) 0 (length (nodes_of plan m)))

-- each other Sentinel, by run id
abbrev pub sentinel_rows : Plan → Core → (now m : ℕ) → List SentinelRow
sentinel_rows plan core now m = map (sentinel_row plan core now m) (places_but plan.place 0 (group_size plan))

-- the numbers of all masters
abbrev pub numbers_from : (first count : ℕ) → List ℕ
numbers_from first zero = []
numbers_from first (suc count) = first ∷ numbers_from (first + 1) count

abbrev pub all_masters : Plan → List ℕ
all_masters plan = numbers_from 0 (master_count plan)

-- a Sentinel that can take part: this one, and each other one that isn't down
abbrev pub is_usable : Plan → Core → (now place : ℕ) → Bool
is_usable plan core now place = if place == plan.place then true else not (is_peer_down plan core now place)

abbrev pub usable_count : Plan → Core → (now : ℕ) → ℕ
usable_count plan core now = count_below (is_usable plan core now) (group_size plan)

abbrev pub quorum_frame : Plan → Core → (now m : ℕ) → Frame
quorum_frame plan core now m =
    let usable = usable_count plan core now in
    if nat_le (need (roster_of plan) m) usable
    then quorum_reached_by plan.profile usable
    else no_quorum_by plan.profile usable (master_at (roster_of plan) m).quorum (group_size plan)

-- INFO

-- for how many milliseconds it has been in TILT, where it is
abbrev pub span_since : Option ℕ → (now : ℕ) → Option ℕ
span_since None now = None
span_since (Some since) now = Some (age since now)

abbrev pub tilted_for : Core → (now : ℕ) → Option ℕ
tilted_for core now = span_since core.clock.entered now

-- as MASTERS shows it; this Sentinel watches too
abbrev pub master_line : Plan → Core → (now m : ℕ) → MasterLine
master_line plan core now m =
    let row = master_row plan core now m in
    record { name = row.name; addr = row.addr; down = row.down; odown = row.odown; replicas = row.replicas; sentinels = row.others + 1 }

-- the section of INFO that tells of the Sentinel
abbrev pub info_frame : Plan → Core → (now : ℕ) → Frame
info_frame plan core now = section_frame (tilted_for core now) (map (master_line plan core now) (all_masters plan))

-- Answers

-- an answer that shows the configurations of these masters
abbrev pub reply : Core → (masters : List ℕ) → Frame → Body
reply core masters frame = PortReply (map (shown_of core) masters) (spelling frame)

-- the number of the master with this name; a word that can't be a name names none
abbrev pub named : Plan → Option (List ℕ) → Option ℕ
named plan None = None
named plan (Some name) = master_named (roster_of plan) name

abbrev pub about : Core → Option ℕ → (ℕ → Body) → Body
about core None body = reply core [] no_such_master
about core (Some m) body = body m

abbrev pub address_of : Core → Option ℕ → Option Shown
address_of core None = None
address_of core (Some m) = Some (shown_of core m)

-- SENTINEL FAILOVER

-- a replica that can be promoted, however old what it told is: in a campaign it tells more
abbrev pub may_take_over : Candidate → Bool
may_take_over c = (not c.sdown && nat_lt 0 c.priority) && is_some c.last_info

abbrev pub has_heir : Plan → Core → (m now : ℕ) → Bool
has_heir plan core m now = list_any may_take_over (candidates_of plan core m now)

-- no switch may be asked for now; one that nobody could take over isn't put off
abbrev pub is_engaged : Plan → Core → (m now : ℕ) → Bool
is_engaged plan core m now = is_in_progress core m now || (is_put_off core m now && has_heir plan core m now)

-- the campaign is to begin at the next tick
abbrev pub wished : (m now : ℕ) → Core → Core
wished m now core = with_master core m (record (master_of core m) { wish = Some now; planned = None })

-- one at a time, another one after ten seconds, and none that could come to nothing from the outset
abbrev pub switch_at : Plan → (m now : ℕ) → Core → Answered
switch_at plan m now core =
    if is_engaged plan core m now then unchanged core (reply core [] in_progress)
    else (if is_tilted core then unchanged core (reply core [] in_tilt)
    else (if has_heir plan core m now then record { core = wished m now core; body = reply core [] ok_line }
    else unchanged core (reply core [] no_good_replica)))

-- strict Sentinels don't know the command
abbrev pub asked_to_switch : Plan → (now : ℕ) → Option ℕ → Core → Answered
asked_to_switch plan now None core = unchanged core (reply core [] no_such_master)
asked_to_switch plan now (Some m) core = switch_at plan m now core

abbrev pub commanded : Plan → (now : ℕ) → Command → Core → Answered
commanded plan now Ping core = unchanged core (PingText false (codes "PONG"))
commanded plan now (IsMasterDownByAddr addr epoch candidate) core =
    asked_of plan now addr epoch (candidate_heeded plan candidate) (master_with_card core.kept.masters addr) core
commanded plan now (GetMasterAddrByName name) core = unchanged core (AddressAnswer (address_of core (named plan name)))
commanded plan now Masters core =
    unchanged core (reply core (all_masters plan) (masters_frame_by plan.profile (map (master_row plan core now) (all_masters plan))))
commanded plan now (Master name) core =
    unchanged core (about core (named plan name) (λ m. reply core (m ∷ []) (master_frame_by plan.profile (master_row plan core now m))))
commanded plan now (Replicas name) core =
    unchanged core (about core (named plan name) (λ m. reply core [] (replicas_frame_by plan.profile (replica_rows plan core now m))))
commanded plan now (Sentinels name) core =
    unchanged core (about core (named plan name) (λ m. reply core [] (sentinels_frame_by plan.profile (sentinel_rows plan core now m))))
commanded plan now MyId core = unchanged core (reply core [] (id_frame (me plan)))
commanded plan now (CkQuorum name) core = unchanged core (about core (named plan name) (λ m. reply core [] (quorum_frame plan core now m)))
commanded plan now (Failover name) core =
    by_profile plan.profile (unchanged core (reply core [] (command_fault UnknownCommand))) (asked_to_switch plan now (named plan name) core)
commanded plan now FlushConfig core = unchanged core (reply core [] ok_line)
commanded plan now Subscribe core = unchanged core (reply core [] subscribed)
commanded plan now Info core = unchanged core (reply core (all_masters plan) (info_frame plan core now))
