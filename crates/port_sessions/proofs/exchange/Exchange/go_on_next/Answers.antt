use Rattle.port_sessions.proofs.GoingOn.{answered_within, broken_within, finished, refused_within}
use Rattle.port_sessions.specs.Talks.{party}
use Rattle.port_sessions.proofs.exchange.Exchange.go_on_next.Goals as goal

pub returns-in-Ok-clause-answered : goal.returns-in-Ok-clause-answered
returns-in-Ok-clause-answered g c = λ most stream before bytes p is a.
    answered_within c.args.cell.now.start c.args.now most stream p c.args.limit.now.most c.next_within.new.limit.most c.args.self.now.frames c.next_within.new.limit.mark
    c.next_within.new.frames bytes (party c.args.seat.now.view c.args.self.now.responder.hears.listens) c.in-Ok-Asked.asked before c.args.self.now.responder.unsent.items
    c.answer.new.self.unsent.items (party c.answer.new.seat.view c.answer.new.self.hears.listens) is a (rw c.in-Ok-Asked.field-0-is at c.in-Ok-Asked.ensures)
    c.in-Ok.ensures.answered

pub returns-in-Err-answer-clause-answered : goal.returns-in-Err-answer-clause-answered
returns-in-Err-answer-clause-answered g c = λ most stream before bytes p is a.
    broken_within c.args.cell.now.start c.args.now most stream p c.in-Err-answer.fault c.args.limit.now.most c.next_within.new.limit.most c.args.self.now.frames
    c.next_within.new.limit.mark c.next_within.new.frames bytes (party c.args.seat.now.view c.args.self.now.responder.hears.listens) c.in-Ok-Asked.asked before
    c.args.self.now.responder.unsent.items c.answer.new.self.unsent.items (party c.answer.new.seat.view c.answer.new.self.hears.listens) is a
    (rw c.in-Ok-Asked.field-0-is at c.in-Ok-Asked.ensures) c.in-Err-answer.ensures.answered c.in-Err-answer.ensures.err

pub returns-in-Ok-Short-clause-answered : goal.returns-in-Ok-Short-clause-answered
returns-in-Ok-Short-clause-answered g c = λ most stream before bytes p is a. (
  bytes,
  is,
  finished c.args.cell.now.start c.args.now most stream p c.args.limit.now.most c.args.self.now.frames c.next_within.new.frames bytes
      (party c.args.seat.now.view c.args.self.now.responder.hears.listens) a (rw c.in-Ok-Short.field-0-is at c.in-Ok-Short.ensures),
)

pub returns-in-Err-clause-answered : goal.returns-in-Err-clause-answered
returns-in-Err-clause-answered g c = λ most stream before bytes p is a.
    rw c.refuse.ensures.hears
    (refused_within c.args.cell.now.start c.args.now most stream p c.args.limit.now.most c.args.self.now.frames c.next_within.new.frames bytes
    (party c.args.seat.now.view c.args.self.now.responder.hears.listens) c.in-Err.fault before c.args.self.now.responder.unsent.items c.refuse.new.self.unsent.items c.refuse.result is a
    c.in-Err.ensures c.refuse.ensures.refused)
