-- What rows say of nodes for those who ask, and in which words a profile tells rows.
use Rattle.std.specs.Prelude.{ℕ, zero, suc, ◌+◌, ◌*◌, min, Bool, not, ◌&&◌, ◌||◌, nat_lt, ◌==◌, Option, Some, None, unwrap_or, List, [], ◌∷◌, map, if◌then◌else◌}
use Rattle.ballot_law.specs.declared.addresses.RunId.{RunId}
use Rattle.ballot_law.specs.declared.hearings.HeardVote.{HeardVote}
use Rattle.ballot_law.specs.declared.replies.DataRole.{DataRole}
use Rattle.ballot_law.specs.declared.replies.Info.{Info}
use Rattle.ballot_law.specs.Clocks.{age}
use Rattle.ballot_law.specs.Watches.{WatchState}
use Rattle.failover_states.specs.declared.states.FailoverState.{FailoverState}
use Rattle.failover_states.specs.declared.states.FailoverState.TheVariants.{Idle, WaitStart, SelectReplica, SendPromotion, WaitPromotion, ReconfReplicas, UpdateConfig}
use Rattle.resp2.specs.Framing.Frame.{Frame, items, frames_of}
use Rattle.port_answers.specs.declared.known_rows.ContactRow.{ContactRow}
use Rattle.port_answers.specs.declared.known_rows.SaidRow.{SaidRow}
use Rattle.port_answers.specs.declared.known_rows.LinkRow.{LinkRow}
use Rattle.port_answers.specs.declared.known_rows.FailoverStage.{FailoverStage}
use Rattle.port_answers.specs.declared.known_rows.FailoverStage.TheVariants.{NoFailover, WaitStart as StageWaitStart, SelectReplica as StageSelectReplica, SendPromotion as StageSendPromotion, WaitPromotion as StageWaitPromotion, ReconfReplicas as StageReconfReplicas, UpdateConfig as StageUpdateConfig}
use Rattle.port_answers.specs.declared.rows.MasterRow.{MasterRow}
use Rattle.port_answers.specs.declared.rows.ReplicaRow.{ReplicaRow}
use Rattle.port_answers.specs.declared.rows.SentinelRow.{SentinelRow}
use Rattle.port_answers.specs.Answers.{master_frame, replica_frame, sentinel_frame, quorum_reached, no_quorum}
use Rattle.port_answers.specs.RedisRows.{redis_master_frame, redis_replica_frame, redis_sentinel_frame, redis_quorum_reached, redis_no_quorum}
use Rattle.sentinel_rules.specs.declared.assumed.TheConstants.{ASSUMED_INFO}
use Rattle.sentinel_rules.specs.declared.contacts.Contact.{Contact}
use Rattle.sentinel_rules.specs.declared.periods.TheConstants.{LINK_MAX_S}
use Rattle.sentinel_rules.specs.declared.profiles.Profile.{Profile}
use Rattle.sentinel_rules.specs.Plans.{Plan}
use Rattle.sentinel_rules.specs.States.{Core, NodeState, node_of, card_place}
use Rattle.sentinel_rules.specs.Profiles.{is_redis, by_profile, down_for}

-- ---- what is known

-- A PING waits since the first one after the last valid reply; one that may still be answered within the time between two isn't told
abbrev pub waiting_for : (period now : ℕ) → WatchState → Contact → ℕ
waiting_for period now watched contact = if nat_lt period (age watched.silent_from now) then down_for contact.waiting now else 0

abbrev pub contact_row : (period now : ℕ) → WatchState → Contact → (down_since : Option ℕ) → ContactRow
contact_row period now watched contact down_since =
    record {
      ping_ms = waiting_for period now watched contact;
      valid_ms = age watched.silent_from now;
      reply_ms = age contact.replied now;
      down_ms = down_for down_since now;
    }

abbrev pub told_id : Option Info → Option RunId
told_id None = None
told_id (Some info) = info.id

abbrev pub told_role : (assumed : DataRole) → Option Info → DataRole
told_role assumed None = assumed
told_role assumed (Some info) = info.role

abbrev pub said_row : (now : ℕ) → (assumed : DataRole) → NodeState → SaidRow
said_row now assumed node =
    record {
      id = told_id node.info;
      info_ms = down_for node.info_at now;
      role = told_role assumed node.info;
      role_ms = age node.role_since now;
    }

abbrev pub link_row : NodeState → LinkRow
link_row node =
    let info = unwrap_or node.info ASSUMED_INFO in
    record {
      down_ms = min info.link_down_s LINK_MAX_S * 1000;
      up = info.link_up;
      master = info.master;
      announced = node.announced;
    }

abbrev pub stage_of : FailoverState → FailoverStage
stage_of Idle = NoFailover
stage_of (WaitStart epoch) = StageWaitStart
stage_of (SelectReplica epoch) = StageSelectReplica
stage_of (SendPromotion epoch choice) = StageSendPromotion
stage_of (WaitPromotion epoch choice former) = StageWaitPromotion
stage_of (ReconfReplicas epoch choice former) = StageReconfReplicas
stage_of (UpdateConfig epoch choice) = StageUpdateConfig

abbrev pub heard_leader : Option HeardVote → Option RunId
heard_leader None = None
heard_leader (Some given) = Some given.candidate

abbrev pub heard_epoch : Option HeardVote → ℕ
heard_epoch None = 0
heard_epoch (Some given) = given.epoch

-- ---- which replicas are told

-- the node of the configuration is none; in Redis one that says that it isn't to be told to clients isn't either
abbrev pub is_left_out : Plan → Core → (m k : ℕ) → Bool
is_left_out plan core m k = (k == card_place plan core m) || (is_redis plan.profile && not (node_of core m k).announced)

-- the places from one on, so many of them, but for those that are left out
abbrev pub places_told : (is_out : ℕ → Bool) → (place count : ℕ) → List ℕ
places_told is_out place zero = []
places_told is_out place (suc count) = if is_out place then places_told is_out (place + 1) count else place ∷ places_told is_out (place + 1) count

-- ---- in which words

abbrev pub master_frame_by : Profile → MasterRow → Frame
master_frame_by profile row = by_profile profile (master_frame row) (redis_master_frame row)

abbrev pub replica_frame_by : Profile → ReplicaRow → Frame
replica_frame_by profile row = by_profile profile (replica_frame row) (redis_replica_frame row)

abbrev pub sentinel_frame_by : Profile → SentinelRow → Frame
sentinel_frame_by profile row = by_profile profile (sentinel_frame row) (redis_sentinel_frame row)

abbrev pub masters_frame_by : Profile → List MasterRow → Frame
masters_frame_by profile rows = items (frames_of (map (master_frame_by profile) rows))

abbrev pub replicas_frame_by : Profile → List ReplicaRow → Frame
replicas_frame_by profile rows = items (frames_of (map (replica_frame_by profile) rows))

abbrev pub sentinels_frame_by : Profile → List SentinelRow → Frame
sentinels_frame_by profile rows = items (frames_of (map (sentinel_frame_by profile) rows))

abbrev pub quorum_reached_by : Profile → (usable : ℕ) → Frame
quorum_reached_by profile usable = by_profile profile (quorum_reached usable) (redis_quorum_reached usable)

abbrev pub no_quorum_by : Profile → (usable quorum sentinels : ℕ) → Frame
no_quorum_by profile usable quorum sentinels = by_profile profile (no_quorum usable) (redis_no_quorum usable quorum sentinels)
