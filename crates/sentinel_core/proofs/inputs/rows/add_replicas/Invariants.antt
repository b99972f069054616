use Rattle.std.proofs.Common.{◌≡◌, ℕ, false, ◌<◌, ◌++◌, length}
use Rattle.ballot_law.specs.Clocks.{clock}
use Rattle.resp2.specs.Framing.Frame.{spelling}
use Rattle.port_answers.specs.Room.{bounded}
use Rattle.port_answers.specs.Answers.{header}
use Rattle.port_answers.specs.Limits.{IsReplicaRow}
use Rattle.sentinel_rules.specs.Answers.{replica_row}
use Rattle.sentinel_rules.specs.Rows.{is_left_out, places_told, replica_frame_by}
use Rattle.sentinel_core.proofs.InputsLemmas.AnswerRows.{text_below, text_told}
use Rattle.sentinel_core.proofs.inputs.rows.add_replicas.Given as goal

abbrev pub invariant-loop-k : goal.invariant-loop-k
invariant-loop-k l =
    record {
      written : l.text
          ≡ bounded (header (length (places_told (is_left_out l.plan l.core l.m) 0 l.count)) ++
          text_below (text_told (is_left_out l.plan l.core l.m) (λ k. spelling (replica_frame_by l.plan.profile (replica_row l.plan l.core (clock l.now) l.m k)))) l.k);
      fits : (k : ℕ) → k < l.k → is_left_out l.plan l.core l.m k ≡ false → IsReplicaRow (replica_row l.plan l.core (clock l.now) l.m k);
    }
