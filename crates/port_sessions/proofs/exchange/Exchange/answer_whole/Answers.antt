use Rattle.std.proofs.Common.{◌∙◌}
use Rattle.port_sessions.proofs.Stepping.{went_on, came_to_the_end}
use Rattle.port_sessions.specs.Talks.{party}
use Rattle.port_sessions.proofs.exchange.Exchange.answer_whole.Goals as goal

pub loop-fault-preserved : goal.loop-fault-preserved
loop-fault-preserved g c =
    let start = c.args.cell.now.start in
    let so_far = c.loop-fault.invariant in (
      c.answer_next.ensures.own ∙ so_far.0,
      c.answer_next.ensures.told ∙ so_far.1,
      λ stream before bytes p is a.
          let on = so_far.2 stream before bytes p is a in
          let next = c.in-Ok-true.ensures.answered stream before on.0 p on.1 on.2 in (
            next.0,
            next.1,
            went_on start c.args.now stream p c.in-Ok-true.field-0 c.answer_next.new.self.frames next.0
                (party c.answer_next.new.seat.view c.answer_next.new.self.responder.hears.listens) c.in-Ok-true.field-0-test next.2,
          ),
    )

pub returns-in-Ok-false-clause-answered : goal.returns-in-Ok-false-clause-answered
returns-in-Ok-false-clause-answered g c = λ stream before bytes p is a.
    let start = c.args.cell.now.start in
    let on = c.loop-fault.invariant.2 stream before bytes p is a in
    let next = c.in-Ok-false.ensures.answered stream before on.0 p on.1 on.2 in (
      next.0,
      next.1,
      came_to_the_end start c.args.now stream p c.in-Ok-false.field-0 c.answer_next.new.self.frames next.0
          (party c.answer_next.new.seat.view c.answer_next.new.self.responder.hears.listens) c.in-Ok-false.field-0-test next.2,
    )

pub returns-in-Err-clause-answered : goal.returns-in-Err-clause-answered
returns-in-Err-clause-answered g c = λ stream before bytes p is a.
    let on = c.loop-fault.invariant.2 stream before bytes p is a in
    c.in-Err.ensures.answered stream before on.0 p on.1 on.2
