use Rattle.std.proofs.Common.{◌≡◌, ◌==◌, ◌++◌, ◌∙◌, false, ℕ, List, length, ap, sym, subst, arith, below_more}
use Rattle.ballot_law.specs.Clocks.{clock}
use Rattle.resp2.specs.Framing.Frame.{spelling}
use Rattle.port_answers.specs.Room.{bounded}
use Rattle.port_answers.specs.Answers.{header}
use Rattle.sentinel_rules.specs.Rows.{sentinel_frame_by}
use Rattle.port_answers.specs.Limits.{IsSentinelRow}
use Rattle.sentinel_rules.specs.Answers.{places_but, sentinel_row}
use Rattle.sentinel_core.proofs.InputsLemmas.AnswerRows.{text_below, text_but, one_written, sentinels_whole}
use Rattle.sentinel_core.proofs.inputs.rows.add_sentinels.Goals as goal

pub loop-place-preserved : goal.loop-place-preserved
loop-place-preserved c =
    let row_of = sentinel_row c.args.plan.now c.args.core.now (clock c.args.now) c.args.m in
    let own = c.place-own.result in
    let n = c.group_size-count.result in
    let place = c.loop-place.place in
    let told : ℕ → List ℕ = λ k. spelling (sentinel_frame_by c.args.plan.now.profile (row_of k)) in
    record {
      written =
          one_written (header (length (places_but own 0 n))) (text_but own told) place c.loop-place.text c.add_sentinel_but.new.text
          c.loop-place.invariant.written
          (c.add_sentinel_but.ensures.value ∙ ap (λ one. bounded (c.loop-place.text ++ text_but one told place)) (sym c.place-own.ensures));
      fits = below_more (λ k. (k == own) ≡ false → IsSentinelRow (row_of k)) place c.loop-place.invariant.fits
          (λ other. c.add_sentinel_but.ensures.fits (ap (λ one. place == one) (sym c.place-own.ensures) ∙ other));
    }

pub returns : goal.returns
returns c =
    let row_of = sentinel_row c.args.plan.now c.args.core.now (clock c.args.now) c.args.m in
    let own = c.place-own.result in
    let n = c.group_size-count.result in
    let end : c.loop-place.place ≡ n = omega (arith, c.loop-place.auto.place-end, c.loop-place-test.false) in
    sentinels_whole c.args.plan.now c.args.core.now (clock c.args.now) c.args.m own n c.loop-place.text c.place-own.ensures c.group_size-count.ensures.value
    c.group_size-count.ensures.few (λ k h. c.loop-place.invariant.fits k (omega (arith, h, end)))
    (subst (λ (k : ℕ). c.loop-place.text ≡ bounded (header (length (places_but own 0 n)) ++ text_below (text_but own (λ k. spelling (sentinel_frame_by c.args.plan.now.profile (row_of k)))) k)) end
    c.loop-place.invariant.written)
