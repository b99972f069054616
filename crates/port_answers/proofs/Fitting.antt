-- Every answer has room.
use Rattle.std.proofs.Common.{ℕ, ◌+◌, ◌*◌, ◌/◌, ◌≤◌, ◌<◌, ◌^◌, Bool, true, false, List, ◌++◌, length, ap, arith, decimal}
use Rattle.std.specs.Prelude.{codes, nat_lt}
use Rattle.ballot_law.specs.declared.addresses.RunId.{RunId}
use Rattle.ballot_law.specs.Words.{id_text}
use Rattle.ballot_law.proofs.WordLemmas.{length-id_text}
use Rattle.resp2.specs.Framing.Frame.{Frame, fault, spelling}
use Rattle.resp2.specs.declared.command.CommandFault.{CommandFault}
use Rattle.resp2.specs.declared.command.CommandFault.TheVariants.{NotACommand, UnknownCommand, WrongArguments, BadAddress, BadEpoch, BadRunId, UnknownChannel}
use Rattle.port_answers.specs.declared.rows.SentinelRow.{SentinelRow}
use Rattle.ballot_law.specs.declared.messages.TheConstants.{ANSWER_MAX}
use Rattle.port_answers.specs.Answers.{master_frame, replica_frame, sentinel_frame, masters_frame, replicas_frame, sentinels_frame, no_such_master, ok_line, in_progress, in_tilt, no_good_replica, quorum_reached, no_quorum, id_frame, subscribed, command_fault, protocol_error}
use Rattle.port_answers.specs.Limits.{IsPlace, IsMasterRow, IsReplicaRow, Fits, MasterFits, MastersFit, ReplicasFit, SentinelsFit, SectionsFit, LinesFit, IsSentinelRow, RedisMasterFits, RedisMastersFit, RedisReplicasFit, RedisSentinelsFit}
use Rattle.bounded_list.proofs.Bounded.{bounded_all}
use Rattle.port_answers.proofs.Subscribing.{subscribed_bytes}
use Rattle.port_answers.specs.RedisRows.{redis_master_frame, redis_masters_frame, redis_replica_frame, redis_replicas_frame, redis_sentinel_frame, redis_sentinels_frame, redis_quorum_reached, redis_no_quorum, shortfall}
use Rattle.port_answers.specs.declared.info_lines.TheConstants.{SECTION_MAX}
use Rattle.port_answers.specs.InfoLines.{sentinel_section, section_frame}
use Rattle.port_answers.proofs.InfoSizes.{section_size, long_bulk_size}
use Rattle.port_answers.proofs.RedisSizes.{redis_master_size, redis_replica_size, redis_sentinel_size}
use Rattle.port_answers.proofs.Sizes.{master_size, replica_size, sentinel_size, rows_array, counted_size, bulk_size}

fits : (frame : Frame) (most : ℕ) → length (spelling frame) ≤ most → most ≤ ANSWER_MAX → Fits frame
fits frame most size room =
    let short : length (spelling frame) ≤ ANSWER_MAX = omega arith in
    record { short = short; whole = bounded_all ANSWER_MAX (spelling frame) short }

pub master_fits : MasterFits
master_fits row h = fits (master_frame row) 573 (master_size row h) (omega arith)

pub masters_fit : MastersFit
masters_fit rows few all =
    fits (masters_frame rows) (length rows * 573 + 23) (rows_array master_frame IsMasterRow 573 master_size rows (omega arith) all) (omega arith)

pub replicas_fit : ReplicasFit
replicas_fit rows few all =
    fits (replicas_frame rows) (length rows * 241 + 23) (rows_array replica_frame IsReplicaRow 241 replica_size rows (omega arith) all) (omega arith)

pub sentinels_fit : SentinelsFit
sentinels_fit rows few all =
    fits (sentinels_frame rows) (length rows * 223 + 23)
    (rows_array sentinel_frame (λ (row : SentinelRow). IsPlace row.addr) 223 sentinel_size rows (omega arith) all) (omega arith)

pub sections_fit : SectionsFit
sections_fit tilt masters span few all =
    let short : length (sentinel_section tilt masters) ≤ SECTION_MAX = omega (arith, section_size tilt masters span (omega arith) all) in
    record {
      section = bounded_all SECTION_MAX (sentinel_section tilt masters) short;
      frame =
          fits (section_frame tilt masters) (length (sentinel_section tilt masters) + 25) (long_bulk_size (sentinel_section tilt masters) (omega arith)) (omega arith);
    }

pub redis_master_fits : RedisMasterFits
redis_master_fits row h = fits (redis_master_frame row) 1110 (redis_master_size row h) (omega arith)

pub redis_masters_fit : RedisMastersFit
redis_masters_fit rows few all =
    fits (redis_masters_frame rows) (length rows * 1110 + 23) (rows_array redis_master_frame IsMasterRow 1110 redis_master_size rows (omega arith) all) (omega arith)

pub redis_replicas_fit : RedisReplicasFit
redis_replicas_fit rows few all =
    fits (redis_replicas_frame rows) (length rows * 958 + 23) (rows_array redis_replica_frame IsReplicaRow 958 redis_replica_size rows (omega arith) all) (omega arith)

pub redis_sentinels_fit : RedisSentinelsFit
redis_sentinels_fit rows few all =
    fits (redis_sentinels_frame rows) (length rows * 727 + 23)
    (rows_array redis_sentinel_frame IsSentinelRow 727 redis_sentinel_size rows (omega arith) all) (omega arith)

fault_fits : (refusal : CommandFault) → Fits (command_fault refusal)
fault_fits NotACommand = fits (command_fault NotACommand) 100 (omega arith) (omega arith)
fault_fits UnknownCommand = fits (command_fault UnknownCommand) 100 (omega arith) (omega arith)
fault_fits WrongArguments = fits (command_fault WrongArguments) 100 (omega arith) (omega arith)
fault_fits BadAddress = fits (command_fault BadAddress) 100 (omega arith) (omega arith)
fault_fits BadEpoch = fits (command_fault BadEpoch) 100 (omega arith) (omega arith)
fault_fits BadRunId = fits (command_fault BadRunId) 100 (omega arith) (omega arith)
fault_fits UnknownChannel = fits (command_fault UnknownChannel) 100 (omega arith) (omega arith)

id_fits : (id : RunId) → Fits (id_frame id)
id_fits id =
    let size = length-id_text id in
    fits (id_frame id) (length (id_text id) + 7) (bulk_size (id_text id) (omega arith)) (omega arith)

counted_short : (behind : List ℕ) (usable : ℕ) → usable < 2 ^ 64 → length behind ≤ 200 →
    length (spelling (fault (codes "NOQUORUM " ++ (decimal usable ++ behind)))) ≤ 250
counted_short behind usable h short = let size = counted_size 45 (codes "NOQUORUM ") behind usable h in omega arith

redis_no_quorum_fits : (usable : ℕ) (quorum majority : Bool) → usable < 2 ^ 64 →
    Fits (fault (codes "NOQUORUM " ++ (decimal usable ++ shortfall quorum majority)))
redis_no_quorum_fits usable true true h =
    fits (fault (codes "NOQUORUM " ++ (decimal usable ++ shortfall true true))) 250 (counted_short (shortfall true true) usable h (omega arith)) (omega arith)
redis_no_quorum_fits usable true false h =
    fits (fault (codes "NOQUORUM " ++ (decimal usable ++ shortfall true false))) 250 (counted_short (shortfall true false) usable h (omega arith)) (omega arith)
redis_no_quorum_fits usable false true h =
    fits (fault (codes "NOQUORUM " ++ (decimal usable ++ shortfall false true))) 250 (counted_short (shortfall false true) usable h (omega arith)) (omega arith)
redis_no_quorum_fits usable false false h =
    fits (fault (codes "NOQUORUM " ++ (decimal usable ++ shortfall false false))) 250 (counted_short (shortfall false false) usable h (omega arith)) (omega arith)

pub lines_fit : LinesFit
lines_fit = record {
  no_such_master = fits no_such_master 100 (omega arith) (omega arith);
  ok_line = fits ok_line 100 (omega arith) (omega arith);
  in_progress = fits in_progress 100 (omega arith) (omega arith);
  in_tilt = fits in_tilt 100 (omega arith) (omega arith);
  no_good_replica = fits no_good_replica 100 (omega arith) (omega arith);
  quorum_reached = λ usable h. fits (quorum_reached usable) 79
      (counted_size 43 (codes "OK ") (codes " usable Sentinels, quorum and majority can be reached") usable h) (omega arith);
  no_quorum = λ usable h. fits (no_quorum usable) 49 (counted_size 45 (codes "NOQUORUM ") (codes " usable Sentinels") usable h) (omega arith);
  id_frame = id_fits;
  subscribed = fits subscribed 100 (let e = ap (λ (bytes : List ℕ). length bytes) subscribed_bytes in omega arith) (omega arith);
  command_fault = fault_fits;
  protocol_error = fits protocol_error 100 (omega arith) (omega arith);
  redis_quorum_reached = λ usable h. fits (redis_quorum_reached usable) 93
      (counted_size 43 (codes "OK ") (codes " usable Sentinels. Quorum and failover authorization can be reached") usable h) (omega arith);
  redis_no_quorum = λ usable quorum sentinels h. redis_no_quorum_fits usable (nat_lt usable quorum) (nat_lt usable (sentinels / 2 + 1)) h;
}
