use Rattle.std.proofs.Common.{arith}
use Rattle.tokens.proofs.HexLemmas.{hex_room}
use Rattle.tokens.proofs.run_ids.hex_of.Goals as goal

pub overflow_mul-number : goal.overflow_mul-number
overflow_mul-number c =
    let room = hex_room c.loop-digit.digit-index (omega arith) in
    omega (arith, room, c.loop-digit.invariant.small)

pub overflow_add-number : goal.overflow_add-number
overflow_add-number c =
    let room = hex_room c.loop-digit.digit-index (omega arith) in
    let digit = c.in_ok-hex_digit_of.ensures.range in
    omega (arith, room, c.loop-digit.invariant.small, digit, c.from.ensures)
