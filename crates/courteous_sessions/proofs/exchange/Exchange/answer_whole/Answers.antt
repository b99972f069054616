use Rattle.std.proofs.Common.{◌∙◌}
use Rattle.courteous_sessions.specs.OnTheWay.{guest_of}
use Rattle.courteous_sessions.proofs.Serving.{went_on, came_to_the_end}
use Rattle.courteous_sessions.proofs.exchange.Exchange.answer_whole.Goals as goal

pub loop-self-preserved : goal.loop-self-preserved
loop-self-preserved g c =
    let start = c.args.cell.now.start in
    let so_far = c.loop-self.invariant in
    let after = c.answer_next.new in (
      c.answer_next.ensures.own ∙ so_far.0,
      c.in-Ok-true.ensures.ready,
      λ stream before bytes visitor is a.
          let on = so_far.2 stream before bytes visitor is a in
          let next = c.in-Ok-true.ensures.answered stream before on.0 visitor on.1 on.2 in (
            next.0,
            next.1,
            went_on start c.args.now stream visitor c.in-Ok-true.field-0 after.self.attendant.held next.0
                (guest_of after.self.attendant after.self.subscriptions after.self.responder.hears after.seat.view) c.in-Ok-true.field-0-test next.2,
          ),
    )

pub returns-in-Ok-false-clause-answered : goal.returns-in-Ok-false-clause-answered
returns-in-Ok-false-clause-answered g c = λ stream before bytes visitor is a.
    let start = c.args.cell.now.start in
    let after = c.answer_next.new in
    let on = c.loop-self.invariant.2 stream before bytes visitor is a in
    let next = c.in-Ok-false.ensures.answered stream before on.0 visitor on.1 on.2 in (
      next.0,
      next.1,
      came_to_the_end start c.args.now stream visitor c.in-Ok-false.field-0 after.self.attendant.held next.0
          (guest_of after.self.attendant after.self.subscriptions after.self.responder.hears after.seat.view) c.in-Ok-false.field-0-test next.2,
    )

pub returns-in-Err-clause-answered : goal.returns-in-Err-clause-answered
returns-in-Err-clause-answered g c = λ stream before bytes visitor is a.
    let on = c.loop-self.invariant.2 stream before bytes visitor is a in
    c.in-Err.ensures.answered stream before on.0 visitor on.1 on.2
