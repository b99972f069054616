use Rattle.std.proofs.Common.{◌<◌, ◌^◌, true, false, sym, arith}
use Rattle.tokens.proofs.NumberLemmas.{canonical_by_lead}
use Rattle.tokens.proofs.numbers.canonical_number_of.Goals as goal

pub returns-then-has_leading_zero-clause-value : goal.returns-then-has_leading_zero-clause-value
returns-then-has_leading_zero-clause-value c =
    let small : c.in_ok-number.number < 2 ^ 64 = omega (arith, c.in_ok-number.ensures.range, c.ranges.high.fits) in
    sym (canonical_by_lead c.args.low c.args.high c.in_ok-number.number c.args.bytes.now true small (sym c.in_ok-number.ensures.value) (cc))

pub returns-else-has_leading_zero-clause-value : goal.returns-else-has_leading_zero-clause-value
returns-else-has_leading_zero-clause-value c =
    let small : c.in_ok-number.number < 2 ^ 64 = omega (arith, c.in_ok-number.ensures.range, c.ranges.high.fits) in
    sym (canonical_by_lead c.args.low c.args.high c.in_ok-number.number c.args.bytes.now false small (sym c.in_ok-number.ensures.value) (cc))
