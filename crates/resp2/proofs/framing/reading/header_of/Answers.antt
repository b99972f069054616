use Rattle.std.proofs.Common.{◌≡◌, ◌≤◌, ◌∷◌, rules, arith}
use Rattle.resp2.proofs.FramingLemmas.Passing.{header_opens}
use Rattle.resp2.proofs.framing.reading.header_of.Goals as goal

pub returns-else-count-gt-MOST_ITEMS : goal.returns-else-count-gt-MOST_ITEMS
returns-else-count-gt-MOST_ITEMS c =
    let whole : c.args.bytes.now ≡ 42 ∷ c.in_ok-first.rest.now = search rules in
    let few : c.in_ok-count-in-Ok.count ≤ 1024 = omega arith in
    rw whole (header_opens c.in_ok-first.rest.now c.in-Ok.line.now c.in-Ok.after.now c.in_ok-count-in-Ok.count c.in-Ok.ensures (search rules) few)
