use Rattle.std.proofs.Common.{◌+◌, ◌<◌, length, get_or, drop, sym, ◌∙◌}
use Rattle.std.proofs.lemmas.List.{at_drop_more}
use Rattle.tokens.proofs.NumberLemmas.{tail_within, digit_stops}
use Rattle.tokens.proofs.numbers.number_of.Goals as goal

pub returns-in_err-number-clause-value : goal.returns-in_err-number-clause-value
returns-in_err-number-clause-value c =
    let xs = c.args.bytes.now in
    let i = c.loop-digit.digit-index in
    let n = c.loop-digit.number in
    let lt : i < length xs = c.loop-digit-test.true in
    let step = at_drop_more (tail_within c.args.low c.args.high n) xs i 0 lt in
    let stops = digit_stops c.args.low c.args.high n (get_or xs i 0) (drop (i + 1) xs) c.ranges.high.fits c.in_err-number.ensures in
    c.from_residual.ensures ∙ sym (c.loop-digit.invariant ∙ step ∙ stops)
