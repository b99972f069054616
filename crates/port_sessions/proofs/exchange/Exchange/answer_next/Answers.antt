use Rattle.port_sessions.proofs.Stepping.{answered_on, broken_on}
use Rattle.port_sessions.specs.Talks.{party}
use Rattle.port_sessions.proofs.exchange.Exchange.answer_next.Goals as goal

pub returns-in-Ok-clause-answered : goal.returns-in-Ok-clause-answered
returns-in-Ok-clause-answered g c = λ stream before bytes p is a.
    answered_on c.args.cell.now.start c.args.now stream p c.args.self.now.frames bytes (party c.args.seat.now.view c.args.self.now.responder.hears.listens) c.in-Ok-Some.asked
    c.next_command.new.frames before c.args.self.now.responder.unsent.items c.answer.new.self.unsent.items
    (party c.answer.new.seat.view c.answer.new.self.hears.listens) is a (rw c.in-Ok-Some.field-0-is at c.in-Ok-Some.ensures.exact) c.in-Ok.ensures.answered

pub returns-in-Err-answer-clause-answered : goal.returns-in-Err-answer-clause-answered
returns-in-Err-answer-clause-answered g c = λ stream before bytes p is a.
    broken_on c.args.cell.now.start c.args.now c.in-Err-answer.fault stream p c.args.self.now.frames bytes (party c.args.seat.now.view c.args.self.now.responder.hears.listens)
    c.in-Ok-Some.asked c.next_command.new.frames before c.args.self.now.responder.unsent.items c.answer.new.self.unsent.items
    (party c.answer.new.seat.view c.answer.new.self.hears.listens) is a (rw c.in-Ok-Some.field-0-is at c.in-Ok-Some.ensures.exact) c.in-Err-answer.ensures.answered
    c.in-Err-answer.ensures.err
