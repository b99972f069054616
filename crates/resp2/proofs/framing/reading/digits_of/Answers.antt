use Rattle.std.proofs.Common.{◌≡◌, ◌<◌, true, length, get_or, ◌∙◌, arith, rules}
use Rattle.std.specs.Char.{is_ascii_digit}
use Rattle.resp2.proofs.FramingLemmas.Numbers.{next_number, next_digits, capped}
use Rattle.resp2.proofs.framing.reading.digits_of.Goals as goal

pub loop-digit-preserved : goal.loop-digit-preserved
loop-digit-preserved c =
    let xs = c.args.line.now in
    let i = c.loop-digit.digit-index in
    let lt : i < length xs = omega arith in
    let next = next_number xs i lt in
    let digit : is_ascii_digit (get_or xs i 0) ≡ true = search rules in
    record {
      number = rw next (capped _ _ _ _ _ _ c.loop-digit.invariant.number c.saturating_mul.ensures c.from.ensures c.saturating_add-number.ensures);
      digits = c.loop-digit.invariant.digits ∙ next_digits xs i lt digit;
    }
