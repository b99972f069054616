use Rattle.std.proofs.Common.{◌≡◌, ◌++◌, ℕ, ap, ◌∙◌, subst, arith, below_more}
use Rattle.sentinel_rules.specs.declared.profiles.Profile.{Profile}
use Rattle.ballot_law.specs.Clocks.{clock}
use Rattle.resp2.specs.Framing.Frame.{spelling}
use Rattle.port_answers.specs.Room.{bounded}
use Rattle.port_answers.specs.Answers.{header}
use Rattle.sentinel_rules.specs.Rows.{master_frame_by}
use Rattle.port_answers.specs.Limits.{IsMasterRow}
use Rattle.sentinel_rules.specs.Answers.{master_row}
use Rattle.sentinel_core.proofs.InputsLemmas.AnswerRows.{text_below, row_written, masters_whole}
use Rattle.sentinel_core.proofs.inputs.rows.add_masters.Goals as goal

pub loop-m-preserved : goal.loop-m-preserved
loop-m-preserved c =
    let row_of = master_row c.args.plan.now c.args.core.now (clock c.args.now) in
    let m = c.loop-m.m in
    record {
      written =
          row_written (master_frame_by c.args.plan.now.profile) row_of (header c.master_count-count.result) m c.master_row.result c.loop-m.text c.add_master.new.text
          c.master_row.ensures.value c.loop-m.invariant.written (c.add_master.ensures ∙ ap (λ (p : Profile). bounded (c.loop-m.text ++ spelling (master_frame_by p c.master_row.result))) c.profile.ensures);
      fits = below_more (λ k. IsMasterRow (row_of k)) m c.loop-m.invariant.fits (subst IsMasterRow c.master_row.ensures.value c.master_row.ensures.fits);
    }

pub returns : goal.returns
returns c =
    let row_of = master_row c.args.plan.now c.args.core.now (clock c.args.now) in
    let n = c.master_count-count.result in
    let end : c.loop-m.m ≡ n = omega (arith, c.loop-m.auto.m-end, c.loop-m-test.false) in
    masters_whole c.args.plan.now c.args.core.now (clock c.args.now) n c.loop-m.text c.master_count-count.ensures.value c.master_count-count.ensures.few
    (λ k h. c.loop-m.invariant.fits k (omega (arith, h, end)))
    (subst (λ (k : ℕ). c.loop-m.text ≡ bounded (header n ++ text_below (λ m. spelling (master_frame_by c.args.plan.now.profile (row_of m))) k)) end c.loop-m.invariant.written)
