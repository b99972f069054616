use Rattle.std.proofs.Common.{◌≡◌, ◌+◌, ◌∷◌, ◌++◌, List, ℕ, length, drop, take, ap, sym, refl, ◌∙◌, append_assoc, decimal, arith}
use Rattle.resp2.specs.declared.framing.value.Value.{Value}
use Rattle.resp2.specs.declared.framing.value.Value.TheFolds.{fold-roll-Value}
use Rattle.resp2.specs.declared.framing.value.Value.TheVariants as value
use Rattle.resp2.specs.Framing.Frame.{Frame, null_bulk, view, view_step, frames_view, spelling, items, line_end}
use Rattle.resp2.proofs.FramingLemmas.Adding.{adds_both, adds_part}
use Rattle.resp2.proofs.FramingLemmas.Written.{spelled, spelled_next, spelled_around, items_spelled}
use Rattle.resp2.proofs.framing.writing.+writing.Goals as goal

pub push_value-returns-in-NullBulk : goal.push_value-returns-in-NullBulk
push_value-returns-in-NullBulk g t c =
    let shape : view value.NullBulk ≡ null_bulk = ap view (sym value.rolls-NullBulk) ∙ fold-roll-Value Frame view_step _ in
    rw (c.in-NullBulk.is, shape) c.push.ensures.added

pub push_items-returns : goal.push_items-returns
push_items-returns g t c =
    let bytes = g.S.ByteSink.bytes in
    let vs = c.args.items.now.items in
    let n = length c.as_slice.result.now in
    adds_both c.push_values.result (bytes c.args.sink.now) (bytes c.push_size.new.sink) (bytes c.push_values.new.sink)
    (42 ∷ (decimal n ++ line_end)) (spelled vs) (spelling (items (frames_view vs))) _
    c.in_ok-push_size.ensures.added c.push_values.ensures (items_spelled vs n (ap (λ (xs : List Value). length xs) c.as_slice.ensures.value))

pub push_items-returns-in_err-push_size : goal.push_items-returns-in_err-push_size
push_items-returns-in_err-push_size g t c =
    let bytes = g.S.ByteSink.bytes in
    let vs = c.args.items.now.items in
    let n = length c.as_slice.result.now in
    adds_part c.from_residual.result (bytes c.args.sink.now) (bytes c.push_size.new.sink)
    (42 ∷ (decimal n ++ line_end)) (spelled vs) (spelling (items (frames_view vs))) _
    c.from_residual.ensures.0 c.in_err-push_size.ensures.added (items_spelled vs n (ap (λ (xs : List Value). length xs) c.as_slice.ensures.value))

pub push_values-loop-item-preserved : goal.push_values-loop-item-preserved
push_values-loop-item-preserved g t c =
    let xs = c.deref-item-items.result.now in
    let i = c.loop-item.item-index in
    let v = c.item-item.result in
    let before = g.S.ByteSink.bytes c.args.sink.now in
    c.in_ok-push_value.ensures
    ∙ ap (λ (t : List ℕ). t ++ spelling (view v)) c.loop-item.invariant
    ∙ append_assoc before (spelled (take i xs)) (spelling (view v))
    ∙ ap (λ (t : List ℕ). before ++ t) (sym (spelled_next xs i v (omega arith) c.item-item.is))

pub push_values-returns-in_err-push_value : goal.push_values-returns-in_err-push_value
push_values-returns-in_err-push_value g t c =
    let bytes = g.S.ByteSink.bytes in
    let xs = c.deref-item-items.result.now in
    let i = c.loop-item.item-index in
    let v = c.item-item.result in
    let next = spelling (view v) in
    let behind = spelled (drop (i + 1) xs) in
    adds_both c.from_residual.result (bytes c.args.sink.now) (bytes c.loop-item.sink) (bytes c.push_value.new.sink)
    (spelled (take i xs)) (next ++ behind) (spelled c.args.items.now.items) _ c.loop-item.invariant
    (adds_part c.from_residual.result (bytes c.loop-item.sink) (bytes c.push_value.new.sink) next behind (next ++ behind) _ c.from_residual.ensures.0 c.in_err-push_value.ensures
    refl)
    (spelled_around xs i v (omega arith) c.item-item.is ∙ ap spelled c.deref-item-items.ensures.value)
