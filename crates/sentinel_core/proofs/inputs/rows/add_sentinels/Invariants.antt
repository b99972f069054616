use Rattle.std.proofs.Common.{◌≡◌, ◌==◌, ℕ, false, ◌<◌, ◌++◌, length}
use Rattle.ballot_law.specs.Clocks.{clock}
use Rattle.resp2.specs.Framing.Frame.{spelling}
use Rattle.port_answers.specs.Room.{bounded}
use Rattle.port_answers.specs.Answers.{header}
use Rattle.sentinel_rules.specs.Rows.{sentinel_frame_by}
use Rattle.port_answers.specs.Limits.{IsSentinelRow}
use Rattle.sentinel_rules.specs.Answers.{places_but, sentinel_row}
use Rattle.sentinel_core.proofs.InputsLemmas.AnswerRows.{text_below, text_but}
use Rattle.sentinel_core.proofs.inputs.rows.add_sentinels.Given as goal

abbrev pub invariant-loop-place : goal.invariant-loop-place
invariant-loop-place l =
    record {
      written : l.text
          ≡ bounded (header (length (places_but l.own 0 l.count)) ++
          text_below (text_but l.own (λ k. spelling (sentinel_frame_by l.plan.profile (sentinel_row l.plan l.core (clock l.now) l.m k)))) l.place);
      fits : (k : ℕ) → k < l.place → (k == l.own) ≡ false → IsSentinelRow (sentinel_row l.plan l.core (clock l.now) l.m k);
    }
