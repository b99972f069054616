use Rattle.std.proofs.Common.{◌≡◌, ◌<◌, ◌++◌, ◌∷◌, [], length, vec_len, vec_capacity, sym, subst, ◌∙◌, arith}
use Rattle.std.specs.Prelude.{is_ok}
use Rattle.bounded_list.specs.BoundedLists.{bounded}
use Rattle.bounded_list.proofs.Bounded.{pushed, bounded_full}
use Rattle.bounded_list.proofs.lists.BoundedList.push.Goals.{in-Err-1, in-Ok-1}
use Rattle.bounded_list.proofs.lists.BoundedList.push.Goals as goal

pub returns-then-len : goal.returns-then-len
returns-then-len g c =
    let limit = g.row.LIMIT in
    let held = c.self.inside.held in
    let counted : vec_len held ≡ length held.items = omega (arith, held.ok, held.small) in
    let short : length held.items < limit = omega (arith, c.if-len.true, c.len.ensures) in
    let room : vec_len held < vec_capacity held = omega (arith, c.self.invariant, c.if-len.true, c.len.ensures) in
    let added = subst (λ t. c.push.new.self.items ≡ bounded limit (t ++ c.args.item ∷ [])) c.self.view_is
    (pushed limit held.items c.push.new.self.items c.args.item (is_ok c.push.result) short (c.push.ensures.succeeds room) c.push.ensures.items) in
    elim c.match-push.branch [
      | in-Err-1 w ↦ w.self-is ∙ added
      | in-Ok-1 w ↦ w.self-is ∙ added
    ]

pub returns-else-len : goal.returns-else-len
returns-else-len g c =
    let limit = g.row.LIMIT in
    let held = c.self.inside.held in
    let counted : vec_len held ≡ length held.items = omega (arith, held.ok, held.small) in
    let full : length held.items ≡ limit = omega (arith, c.self.invariant, c.if-len.false, c.len.ensures) in
    subst (λ t. t ≡ bounded limit (t ++ c.args.item ∷ [])) c.self.view_is (sym (bounded_full limit held.items (c.args.item ∷ []) full))
