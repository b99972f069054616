use Rattle.std.proofs.Common.{◌≡◌, ◌<◌, ◌^◌, length, subst, arith}
use Rattle.tokens.proofs.run_ids.run_id_of.Goals as goal

pub overflow_cast-result : goal.overflow_cast-result
overflow_cast-result c =
    let eight : length c.split_at.result.1.now ≡ 8 = omega arith in
    let small = subst (λ k. c.in_ok-lo.lo < 16 ^ k) eight c.in_ok-lo.ensures.range in
    omega (arith, small)
