use Rattle.std.proofs.Common.{◌≢◌, arith}
use Rattle.std.proofs.lemmas.Bool.Decides.{nat_tests}
use Rattle.resp2.proofs.Found.{one_digit, two_digits}
use Rattle.resp2.proofs.asked.length_at.Goals as goal

pub returns-in-Some : goal.returns-in-Some
returns-in-Some c =
    one_digit c.in_ok-first.first.now c.in_ok-tens.tens c.args.bytes.now c.in_ok-first.rest.now c.in-Some.text.now
    c.in_ok-first.ensures.cases.0 c.in_ok-tens.ensures.0 c.in_ok-tens.ensures.1 c.in-Some.ensures

pub returns : goal.returns
returns c =
    let some : c.in_ok-tens.tens ≢ 0 = λ e. grind (arith, nat_tests) in
    two_digits c.in_ok-first.first.now c.in_ok-second.second.now c.in_ok-tens.tens c.in_ok-ones.ones c.args.bytes.now c.in_ok-first.rest.now c.in_ok-second.rest.now
    c.in_ok-text.text.now
    c.in_ok-first.ensures.cases.0 c.in_ok-tens.ensures.0 c.in_ok-tens.ensures.1 c.in_ok-second.ensures.cases.0 c.in_ok-ones.ensures.0 c.in_ok-ones.ensures.1 some
    c.in_ok-text.ensures
