use Rattle.resp2.specs.Framing.Frame.{view}
use Rattle.courteous_sessions.proofs.Stepping.{read_frame, step_answered}
use Rattle.std.proofs.Common.{◌∙◌}
use Rattle.courteous_sessions.specs.OnTheWay.{guest_of}
use Rattle.courteous_sessions.proofs.Serving.{was_read, lost_here}
use Rattle.courteous_sessions.proofs.exchange.Exchange.answer_any.Goals as goal

pub tell_value-requires-clause-frame : goal.tell_value-requires-clause-frame
tell_value-requires-clause-frame g c = (
  read_frame view c.in-Ok-Some.value c.args.self.now.attendant.held c.next.new.self.held c.requires.ready.reads (rw c.in-Ok-Some.field-0-is at c.in-Ok-Some.ensures.exact),
  rw c.in-Ok-Some.field-0-is at c.in-Ok-Some.ensures.lines,
)

pub returns-in-Ok-clause-answered : goal.returns-in-Ok-clause-answered
returns-in-Ok-clause-answered g c = λ stream first bytes visitor is a.
    let before = c.args.self.now in
    let after = c.tell_value.new.self in
    step_answered c.args.cell.now.start c.args.now view c.in-Ok-Some.value stream first bytes visitor before.attendant c.next.new.self after.attendant before.subscriptions
    after.subscriptions before.responder.unsent.items after.responder.unsent.items before.responder.hears after.responder.hears c.args.seat.now.view c.tell_value.new.seat.view is a c.requires.ready
    (rw c.in-Ok-Some.field-0-is at c.in-Ok-Some.ensures.exact) c.next.ensures.asker c.in-Ok.ensures.held c.in-Ok.ensures.served

pub returns-in-Ok-Some-clause-answered : goal.returns-in-Ok-Some-clause-answered
returns-in-Ok-Some-clause-answered g c = λ stream first bytes visitor is a.
    let before = c.args.self.now in
    let given = rw c.in-Ok-Some.field-0-is at c.in-Ok-Some.ensures.exact in
    let at = was_read view before.attendant.held c.in-Ok-Some.value c.next.new.self.held c.requires.ready.reads given in
    let ended = c.in-Err-tell_value.ensures.fault in (
      bytes,
      ended.1 ∙ is,
      lost_here c.args.cell.now.start c.args.now stream visitor before.attendant.held bytes
          (guest_of before.attendant before.subscriptions before.responder.hears c.args.seat.now.view) (view c.in-Ok-Some.value) at.0 c.in-Err-tell_value.fault c.tell_value.new.seat.view a
          at.1 ended.0 ended.2,
    )
