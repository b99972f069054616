use Rattle.std.proofs.Common.{◌++◌, List, ℕ, take, ap, sym, ◌∙◌, append_assoc, arith}
use Rattle.resp2.specs.Framing.Frame.{view}
use Rattle.courteous_sessions.specs.Nested.{spelling_in}
use Rattle.courteous_sessions.proofs.NestedTold.{told_in, told_in_next}
use Rattle.courteous_sessions.proofs.nested.+telling.Goals as goal

pub push_values_in-loop-item-preserved : goal.push_values_in-loop-item-preserved
push_values_in-loop-item-preserved t c =
    let xs = c.deref-item-items.result.now in
    let i = c.loop-item.item-index in
    let v = c.item-item.result in
    let before = c.args.out.now in
    let manner = c.args.manner in
    c.in_ok-push_in.ensures
    ∙ ap (λ (t : List ℕ). t ++ spelling_in manner (view v)) c.loop-item.invariant
    ∙ append_assoc before (told_in manner (take i xs)) (spelling_in manner (view v))
    ∙ ap (λ (t : List ℕ). before ++ t) (sym (told_in_next manner xs i v (omega arith) c.item-item.is))
