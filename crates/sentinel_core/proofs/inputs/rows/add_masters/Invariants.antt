use Rattle.std.proofs.Common.{◌≡◌, ℕ, ◌<◌, ◌++◌}
use Rattle.ballot_law.specs.Clocks.{clock}
use Rattle.resp2.specs.Framing.Frame.{spelling}
use Rattle.port_answers.specs.Room.{bounded}
use Rattle.port_answers.specs.Answers.{header}
use Rattle.sentinel_rules.specs.Rows.{master_frame_by}
use Rattle.port_answers.specs.Limits.{IsMasterRow}
use Rattle.sentinel_rules.specs.Answers.{master_row}
use Rattle.sentinel_core.proofs.InputsLemmas.AnswerRows.{text_below}
use Rattle.sentinel_core.proofs.inputs.rows.add_masters.Given as goal

abbrev pub invariant-loop-m : goal.invariant-loop-m
invariant-loop-m l =
    record {
      written : l.text ≡ bounded (header l.count ++ text_below (λ m. spelling (master_frame_by l.plan.profile (master_row l.plan l.core (clock l.now) m))) l.m);
      fits : (m : ℕ) → m < l.m → IsMasterRow (master_row l.plan l.core (clock l.now) m);
    }
