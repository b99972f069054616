use Rattle.std.proofs.Common.{◌≡◌, ◌++◌, ℕ, false, length, subst, arith, below_more}
use Rattle.ballot_law.specs.Clocks.{clock}
use Rattle.resp2.specs.Framing.Frame.{spelling}
use Rattle.port_answers.specs.Room.{bounded}
use Rattle.port_answers.specs.Answers.{header}
use Rattle.port_answers.specs.Limits.{IsReplicaRow}
use Rattle.sentinel_rules.specs.Answers.{replica_row}
use Rattle.sentinel_rules.specs.Rows.{is_left_out, places_told, replica_frame_by}
use Rattle.sentinel_core.proofs.InputsLemmas.AnswerRows.{text_below, text_told, one_written, replicas_whole}
use Rattle.sentinel_core.proofs.inputs.rows.add_replicas.Goals as goal

pub loop-k-preserved : goal.loop-k-preserved
loop-k-preserved c =
    let plan = c.args.plan.now in
    let core = c.args.core.now in
    let row_of = replica_row plan core (clock c.args.now) c.args.m in
    let out = is_left_out plan core c.args.m in
    let n = c.node_count-count.result in
    let k = c.loop-k.k in
    record {
      written =
          one_written (header (length (places_told out 0 n))) (text_told out (λ k. spelling (replica_frame_by plan.profile (row_of k)))) k c.loop-k.text
          c.add_replica_but.new.text c.loop-k.invariant.written c.add_replica_but.ensures.value;
      fits = below_more (λ k. out k ≡ false → IsReplicaRow (row_of k)) k c.loop-k.invariant.fits c.add_replica_but.ensures.fits;
    }

pub returns : goal.returns
returns c =
    let plan = c.args.plan.now in
    let core = c.args.core.now in
    let row_of = replica_row plan core (clock c.args.now) c.args.m in
    let out = is_left_out plan core c.args.m in
    let n = c.node_count-count.result in
    let end : c.loop-k.k ≡ n = omega (arith, c.loop-k.auto.k-end, c.loop-k-test.false) in
    replicas_whole plan core (clock c.args.now) c.args.m n c.loop-k.text c.node_count-count.ensures.value c.node_count-count.ensures.few
    (λ k h. c.loop-k.invariant.fits k (omega (arith, h, end)))
    (subst (λ (k : ℕ). c.loop-k.text
    ≡ bounded (header (length (places_told out 0 n)) ++ text_below (text_told out (λ k. spelling (replica_frame_by plan.profile (row_of k)))) k)) end
    c.loop-k.invariant.written)
