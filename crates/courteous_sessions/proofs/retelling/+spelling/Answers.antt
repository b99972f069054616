use Rattle.std.proofs.Common.{◌++◌, List, ℕ, take, ap, sym, ◌∙◌, append_assoc, arith}
use Rattle.resp2.specs.Framing.Frame.{view}
use Rattle.courteous_sessions.specs.Retelling.{spelling3}
use Rattle.courteous_sessions.proofs.Retold.{spelled3, spelled3_next}
use Rattle.courteous_sessions.proofs.retelling.+spelling.Goals as goal

pub push_values-loop-item-preserved : goal.push_values-loop-item-preserved
push_values-loop-item-preserved t c =
    let xs = c.deref-item-items.result.now in
    let i = c.loop-item.item-index in
    let v = c.item-item.result in
    let before = c.args.out.now in
    c.in_ok-push_value.ensures
    ∙ ap (λ (t : List ℕ). t ++ spelling3 (view v)) c.loop-item.invariant
    ∙ append_assoc before (spelled3 (take i xs)) (spelling3 (view v))
    ∙ ap (λ (t : List ℕ). before ++ t) (sym (spelled3_next xs i v (omega arith) c.item-item.is))
