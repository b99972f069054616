use Rattle.std.proofs.Common.{arith}
use Rattle.std.proofs.lemmas.Grind.{common_steps}
use Rattle.failover_states.proofs.failovers.Failover.turn.Goals as goal

pub returns-in-WaitPromotion : goal.returns-in-WaitPromotion
returns-in-WaitPromotion c =
    let w = c.in-WaitPromotion in
    grind (arith, common_steps, c.wait_promotion.ensures w.epoch w.choice w.former)
