use Rattle.std.proofs.Common.{◌≡◌, ◌<◌, ◌++◌, false, length, get_or, take, drop, ap, sym, subst, ◌∙◌, arith}
use Rattle.ballot_law.specs.Ordered.{add}
use Rattle.ballot_law.proofs.Placing.{placed_tied}
use Rattle.ballot_law.proofs.ordering.put.Goals as goal

-- the item ties with the one at its place
pub returns-then-not-is_before : goal.returns-then-not-is_before
returns-then-not-is_before g c =
    let before = g.T.Placed.before in
    let item = c.args.item in
    let list = c.args.list.now.items in
    let place = c.place_of-place.result in
    let other = c.index.result.now in
    let within : place < length list = omega (arith, c.if-place-len.true, c.len.ensures, c.args.list.now.ok) in
    let not_after : before (get_or list place other) item ≡ false = search (arith, c.place_of-place.ensures.stop) in
    let not_before : before item (get_or list place other) ≡ false = ap (before item) (sym c.index.ensures) ∙ sym c.is_before.ensures ∙ c.if-not-is_before.true in
    let split = subst (λ t. add before item t ≡ take place t ++ add before item (drop place t)) c.deref.ensures.value c.place_of-place.ensures.place in
    sym (placed_tied before item other list place within not_after not_before split)
