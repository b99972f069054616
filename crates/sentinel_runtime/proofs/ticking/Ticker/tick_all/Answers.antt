use Rattle.std.proofs.Common.{◌≡◌, ℕ, ◌<◌, ◌∙◌, arith, subst}
use Rattle.sentinel_runtime.specs.Ticking.{Ticked}
use Rattle.sentinel_runtime.proofs.Hearing.{ticks_more, ticks_stop}
use Rattle.sentinel_runtime.proofs.ticking.Ticker.tick_all.Goals as goal

pub loop-master-preserved : goal.loop-master-preserved
loop-master-preserved g c =
    let due = c.loop-master.invariant.due in
    record {
      ticked = ticks_more _ _ _ _ _ _ _ _ _ c.if-not-tick_one.false c.loop-master.invariant.ticked c.tick_one.ensures.ticked;
      due = (c.tick_one.ensures.due.0 ∙ due.0, c.tick_one.ensures.due.1 ∙ due.1);
    }

pub returns-then-not-tick_one-clause-ticked : goal.returns-then-not-tick_one-clause-ticked
returns-then-not-tick_one-clause-ticked g c =
    ticks_stop _ _ _ _ _ _ _ _ c.loop-master.master _ c.if-not-tick_one.true
    (subst (λ (n : ℕ). c.loop-master.master < n) c.masters-master-end.ensures c.loop-master-test.true) c.loop-master.invariant.ticked c.tick_one.ensures.ticked

pub returns-clause-ticked : goal.returns-clause-ticked
returns-clause-ticked g c =
    let it = c.loop-master.invariant.ticked in
    let member = c.args.member.now in
    let at_end : c.loop-master.master ≡ c.masters-master-end.result = omega (arith, c.loop-master.auto.master-end, c.loop-master-test.false) in
    (it.0, it.1, subst (λ (n : ℕ). Ticked member.cell.start c.args.seat.now.seat.view n it.0 c.loop-master.seat.seat.view) (at_end ∙ c.masters-master-end.ensures) it.2)
