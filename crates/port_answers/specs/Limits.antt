-- What is short enough to have room.
use Rattle.std.specs.Prelude.{◌≡◌, ⊤, ℕ, ◌<◌, ◌≤◌, ◌^◌, Option, Some, None, List, length}
use Rattle.std.specs.List.{AllByRecursion}
use Rattle.ballot_law.specs.declared.names.TheConstants.{NAME_MAX}
use Rattle.ballot_law.specs.declared.rosters.TheConstants.{MASTERS_MAX, NODES_MAX, SENTINELS_MAX}
use Rattle.ballot_law.specs.declared.addresses.Addr.{Addr}
use Rattle.ballot_law.specs.declared.addresses.RunId.{RunId}
use Rattle.resp2.specs.Framing.Frame.{Frame, spelling}
use Rattle.resp2.specs.declared.command.CommandFault.{CommandFault}
use Rattle.port_answers.specs.declared.known_rows.ContactRow.{ContactRow}
use Rattle.port_answers.specs.declared.known_rows.SaidRow.{SaidRow}
use Rattle.port_answers.specs.declared.known_rows.LinkRow.{LinkRow}
use Rattle.port_answers.specs.declared.rows.MasterRow.{MasterRow}
use Rattle.port_answers.specs.declared.rows.ReplicaRow.{ReplicaRow}
use Rattle.port_answers.specs.declared.rows.SentinelRow.{SentinelRow}
use Rattle.ballot_law.specs.declared.messages.TheConstants.{ANSWER_MAX}
use Rattle.port_answers.specs.declared.info_lines.MasterLine.{MasterLine}
use Rattle.port_answers.specs.InfoLines.{sentinel_section, section_frame}
use Rattle.port_answers.specs.Room.{bounded, within_section}
use Rattle.port_answers.specs.Answers.{master_frame, masters_frame, replicas_frame, sentinels_frame, no_such_master, ok_line, in_progress, in_tilt, no_good_replica, quorum_reached, no_quorum, id_frame, subscribed, command_fault, protocol_error}
use Rattle.port_answers.specs.RedisRows.{redis_master_frame, redis_masters_frame, redis_replicas_frame, redis_sentinels_frame, redis_quorum_reached, redis_no_quorum}

-- an IPv4 address and a TCP port
pub record IsPlace (addr : Addr) : Type 0 where
  pub ip : addr.ip < 2 ^ 32
  pub port : addr.port ≤ 65535

-- numbers of 64 bits
pub record IsContactRow (row : ContactRow) : Type 0 where
  pub ping_ms : row.ping_ms < 2 ^ 64
  pub valid_ms : row.valid_ms < 2 ^ 64
  pub reply_ms : row.reply_ms < 2 ^ 64
  pub down_ms : row.down_ms < 2 ^ 64

pub record IsSaidRow (row : SaidRow) : Type 0 where
  pub info_ms : row.info_ms < 2 ^ 64
  pub role_ms : row.role_ms < 2 ^ 64

-- an address where there is one
abbrev pub IsPlaceIfAny : Option Addr → Type 0
IsPlaceIfAny None = ⊤
IsPlaceIfAny (Some addr) = IsPlace addr

pub record IsLinkRow (row : LinkRow) : Type 0 where
  pub down_ms : row.down_ms < 2 ^ 64
  pub master : IsPlaceIfAny row.master

-- a name of at most 64 bytes, and numbers of 64 bits
pub record IsMasterRow (row : MasterRow) : Type 0 where
  pub name : length row.name ≤ NAME_MAX
  pub addr : IsPlace row.addr
  pub replicas : row.replicas < 2 ^ 64
  pub others : row.others < 2 ^ 64
  pub quorum : row.quorum < 2 ^ 64
  pub after_ms : row.after_ms < 2 ^ 64
  pub timeout : row.timeout < 2 ^ 64
  pub parallel_syncs : row.parallel_syncs < 2 ^ 64
  pub epoch : row.epoch < 2 ^ 64
  pub odown_ms : row.odown_ms < 2 ^ 64
  pub contact : IsContactRow row.contact
  pub said : IsSaidRow row.said

-- numbers of 64 bits
pub record IsReplicaRow (row : ReplicaRow) : Type 0 where
  pub addr : IsPlace row.addr
  pub priority : row.priority < 2 ^ 64
  pub offset : row.offset < 2 ^ 64
  pub after_ms : row.after_ms < 2 ^ 64
  pub contact : IsContactRow row.contact
  pub said : IsSaidRow row.said
  pub link : IsLinkRow row.link

-- numbers of 64 bits
pub record IsSentinelRow (row : SentinelRow) : Type 0 where
  pub addr : IsPlace row.addr
  pub masters : row.masters < 2 ^ 64
  pub after_ms : row.after_ms < 2 ^ 64
  pub hello_ms : row.hello_ms < 2 ^ 64
  pub leader_epoch : row.leader_epoch < 2 ^ 64
  pub contact : IsContactRow row.contact

-- a name of at most 64 bytes, and numbers of 64 bits
pub record IsMasterLine (line : MasterLine) : Type 0 where
  pub name : length line.name ≤ NAME_MAX
  pub addr : IsPlace line.addr
  pub replicas : line.replicas < 2 ^ 64
  pub sentinels : line.sentinels < 2 ^ 64

-- a number of 64 bits where there is one
abbrev pub IsSpanIfAny : Option ℕ → Type 0
IsSpanIfAny None = ⊤
IsSpanIfAny (Some millis) = millis < 2 ^ 64

-- the spelling is no longer than the room, which so holds all of it
pub record Fits (frame : Frame) : Type 0 where
  pub short : length (spelling frame) ≤ ANSWER_MAX
  pub whole : bounded (spelling frame) ≡ spelling frame

-- one master
abbrev pub MasterFits : Type 0
MasterFits = (row : MasterRow) → IsMasterRow row → Fits (master_frame row)

-- up to 16 masters
abbrev pub MastersFit : Type 0
MastersFit = (rows : List MasterRow) → length rows ≤ MASTERS_MAX → AllByRecursion IsMasterRow rows → Fits (masters_frame rows)

-- up to 256 replicas
abbrev pub ReplicasFit : Type 0
ReplicasFit = (rows : List ReplicaRow) → length rows ≤ NODES_MAX → AllByRecursion IsReplicaRow rows → Fits (replicas_frame rows)

-- up to 64 Sentinels
abbrev pub SentinelsFit : Type 0
SentinelsFit = (rows : List SentinelRow) → length rows ≤ SENTINELS_MAX → AllByRecursion (λ (row : SentinelRow). IsPlace row.addr) rows → Fits (sentinels_frame rows)

-- the section of INFO that tells of up to 16 masters
pub record SectionFits (tilt : Option ℕ) (masters : List MasterLine) : Type 0 where
  pub section : within_section (sentinel_section tilt masters) ≡ sentinel_section tilt masters
  pub frame : Fits (section_frame tilt masters)

abbrev pub SectionsFit : Type 0
SectionsFit =
    (tilt : Option ℕ) (masters : List MasterLine) → IsSpanIfAny tilt → length masters ≤ MASTERS_MAX → AllByRecursion IsMasterLine masters →
    SectionFits tilt masters

-- the same in redis-sentinel's words
abbrev pub RedisMasterFits : Type 0
RedisMasterFits = (row : MasterRow) → IsMasterRow row → Fits (redis_master_frame row)

abbrev pub RedisMastersFit : Type 0
RedisMastersFit = (rows : List MasterRow) → length rows ≤ MASTERS_MAX → AllByRecursion IsMasterRow rows → Fits (redis_masters_frame rows)

abbrev pub RedisReplicasFit : Type 0
RedisReplicasFit = (rows : List ReplicaRow) → length rows ≤ NODES_MAX → AllByRecursion IsReplicaRow rows → Fits (redis_replicas_frame rows)

abbrev pub RedisSentinelsFit : Type 0
RedisSentinelsFit = (rows : List SentinelRow) → length rows ≤ SENTINELS_MAX → AllByRecursion IsSentinelRow rows → Fits (redis_sentinels_frame rows)

-- every line, whatever its number of 64 bits, its run id or its fault
pub record LinesFit : Type 0 where
  pub no_such_master : Fits no_such_master
  pub ok_line : Fits ok_line
  pub in_progress : Fits in_progress
  pub in_tilt : Fits in_tilt
  pub no_good_replica : Fits no_good_replica
  pub quorum_reached : (usable : ℕ) → usable < 2 ^ 64 → Fits (quorum_reached usable)
  pub no_quorum : (usable : ℕ) → usable < 2 ^ 64 → Fits (no_quorum usable)
  pub id_frame : (id : RunId) → Fits (id_frame id)
  pub subscribed : Fits subscribed
  pub command_fault : (refusal : CommandFault) → Fits (command_fault refusal)
  pub protocol_error : Fits protocol_error
  pub redis_quorum_reached : (usable : ℕ) → usable < 2 ^ 64 → Fits (redis_quorum_reached usable)
  pub redis_no_quorum : (usable quorum sentinels : ℕ) → usable < 2 ^ 64 → Fits (redis_no_quorum usable quorum sentinels)
