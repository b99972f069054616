use Rattle.std.proofs.Common.{◌≡◌, ◌≤◌, ◌+◌, ◌-◌, min, ◌++◌, length, vec_len, vec_capacity, ap, subst, ◌∙◌, arith}
use Rattle.std.specs.Prelude.{is_ok}
use Rattle.bounded_list.specs.BoundedLists.{bounded}
use Rattle.bounded_list.proofs.Bounded.{added_fits}
use Rattle.bounded_list.proofs.lists.BoundedList.extend_from_slice.Goals as goal

pub returns : goal.returns
returns g c =
    let limit = g.row.LIMIT in
    let held = c.self.inside.held.items in
    let piece = c.args.piece.now in
    let counted : vec_len c.self.inside.held ≡ length held = omega (arith, c.self.inside.held.ok, c.self.inside.held.small) in
    let short : length held ≤ limit = omega (arith, c.self.invariant) in
    let room : vec_len c.self.inside.held + length c.split_at.result.0.now ≤ vec_capacity c.self.inside.held
    = omega (arith, c.self.invariant, c.split_at.ensures.front_len, c.min-count.ensures) in
    subst (λ t. c.extend_from_slice.new.self.items ≡ bounded limit (t ++ piece)) c.self.view_is
    (added_fits limit held piece c.split_at.result.0.now c.extend_from_slice.new.self.items c.min-count.result (is_ok c.extend_from_slice.result) short
    (c.min-count.ensures ∙ ap (λ n. min (length piece) (limit - n)) (c.len.ensures ∙ counted)) c.split_at.ensures.front
    (c.extend_from_slice.ensures.succeeds room) c.extend_from_slice.ensures.items)
