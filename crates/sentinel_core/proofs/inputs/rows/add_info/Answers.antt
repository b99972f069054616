use Rattle.std.proofs.Common.{◌≡◌, ℕ, Option, List, ◌++◌, ap, sym, ◌∙◌, append-nil, subst, arith, below_more}
use Rattle.ballot_law.specs.Clocks.{clock}
use Rattle.port_answers.specs.InfoLines.{line_of, section_front}
use Rattle.port_answers.specs.Limits.{IsMasterLine, IsSpanIfAny}
use Rattle.port_answers.specs.Room.{within_section}
use Rattle.sentinel_rules.specs.Answers.{master_line, tilted_for}
use Rattle.sentinel_core.proofs.InputsLemmas.InfoTexts.{lines_below, line_written, section_whole}
use Rattle.sentinel_core.proofs.inputs.rows.add_info.Goals as goal

pub loop-m-init : goal.loop-m-init
loop-m-init c =
    let n = c.master_count-count.result in
    let tilt = tilted_for c.args.core.now (clock c.args.now) in
    record {
      written =
          c.add_front.ensures
          ∙ ap (λ (t : List ℕ). within_section (t ++ section_front c.from-masters.result c.tilted_for-tilt.result)) c.new-section.ensures
          ∙ ap (λ (k : ℕ). within_section (section_front k c.tilted_for-tilt.result)) c.from-masters.ensures
          ∙ ap (λ (t : Option ℕ). within_section (section_front n t)) c.tilted_for-tilt.ensures.value
          ∙ ap (λ (t : List ℕ). within_section t) (sym (append-nil (section_front n tilt)));
      fits = λ k h. absurd (omega (arith, h));
    }

pub loop-m-preserved : goal.loop-m-preserved
loop-m-preserved c =
    let line_at = master_line c.args.plan.now c.args.core.now (clock c.args.now) in
    let m = c.loop-m.m in
    let front = section_front c.master_count-count.result (tilted_for c.args.core.now (clock c.args.now)) in
    record {
      written =
          line_written front line_at m c.master_line-line.result c.loop-m.section c.add_master.new.self c.master_line-line.ensures.value c.loop-m.invariant.written
          (c.add_master.ensures ∙ ap (λ (n : ℕ). within_section (c.loop-m.section ++ line_of n c.master_line-line.result)) c.from-n.ensures);
      fits = below_more (λ k. IsMasterLine (line_at k)) m c.loop-m.invariant.fits (subst IsMasterLine c.master_line-line.ensures.value c.master_line-line.ensures.fits);
    }

pub returns : goal.returns
returns c =
    let line_at = master_line c.args.plan.now c.args.core.now (clock c.args.now) in
    let n = c.master_count-count.result in
    let tilt = tilted_for c.args.core.now (clock c.args.now) in
    let end : c.loop-m.m ≡ n = omega (arith, c.loop-m.auto.m-end, c.loop-m-test.false) in
    section_whole c.args.plan.now c.args.core.now (clock c.args.now) n c.loop-m.section c.args.text.now c.add_section.new.self
    c.master_count-count.ensures.value c.master_count-count.ensures.few (subst IsSpanIfAny c.tilted_for-tilt.ensures.value c.tilted_for-tilt.ensures.fits)
    (λ k h. c.loop-m.invariant.fits k (omega (arith, h, end)))
    (subst (λ (k : ℕ). c.loop-m.section ≡ within_section (section_front n tilt ++ lines_below line_at k)) end c.loop-m.invariant.written)
    c.requires c.add_section.ensures
