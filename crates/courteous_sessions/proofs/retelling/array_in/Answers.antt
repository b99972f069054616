use Rattle.std.proofs.Common.{◌≡◌, ◌∙◌, ◌∷◌, ◌++◌, List, ℕ, length, decimal, sym, ap}
use Rattle.resp2.specs.declared.framing.value.Value.TheFolds.{fold-roll-Value}
use Rattle.resp2.specs.declared.framing.value.Value.TheVariants as value
use Rattle.resp2.specs.Framing.Frame.{Frame, view, view_step, items, frames_view, line_end, spelling}
use Rattle.courteous_sessions.proofs.Retold.{array_read}
use Rattle.courteous_sessions.proofs.retelling.array_in.Goals as goal

pub returns-then-eq : goal.returns-then-eq
returns-then-eq c =
    let rest = c.after_line-rest.result.now in
    let n = length c.as_slice.result.now in
    let sized = c.in_ok-push_size.ensures.added ∙ ap (λ (t : List ℕ). t ++ (42 ∷ (decimal n ++ line_end))) c.new-again.ensures in
    let list = c.in_ok-items.items in
    let shape : view (value.Items list) ≡ items (frames_view list.items) = ap view (sym (value.rolls-Items list)) ∙ fold-roll-Value Frame view_step _ in
    array_read n rest c.args.bytes.now c.as_slice-2.result.now list.items c.in_ok-items.ensures (ap length c.as_slice.ensures.value)
    (c.as_slice-2.ensures ∙ c.in_ok-add.ensures.ok ∙ ap (λ (t : List ℕ). t ++ rest) sized) (sym c.eq.ensures ∙ c.if-eq.true)
    ∙ ap spelling (sym shape)
