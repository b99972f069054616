use Rattle.std.proofs.Common.{◌∙◌, ap}
use Rattle.port_sessions.proofs.Replying.{turn_written, turn_lost}
use Rattle.port_sessions.proofs.responder.Responder.answer_in_turn.Goals as goal

pub returns-in-Ok-clause-answered : goal.returns-in-Ok-clause-answered
returns-in-Ok-clause-answered g c =
    let turned = c.in-Ok.ensures.turned in
    let put = c.put_shown.ensures in
    turn_written c.args.cell.now.start c.args.now c.args.seat.now.view c.args.self.now.hears.listens c.put_shown.new.self.hears.listens c.args.command
    c.take_turn.new.self.outbox.shown c.put_shown.result c.args.self.now.unsent.items c.put_shown.new.self.unsent.items c.take_turn.new.seat.view c.requires.silent
    (ap (λ h. h.listens) put.hears ∙ c.in-Ok.ensures.listens) c.requires.turn turned (rw c.take_turn.ensures.unsent at (put.ok turned.0 turned.1))
    (rw c.take_turn.ensures.unsent at put.err) put.fault

pub returns-in-Err-clause-answered : goal.returns-in-Err-clause-answered
returns-in-Err-clause-answered g c =
    turn_lost c.args.cell.now.start c.args.now (Unit {0}) c.args.seat.now.view c.args.self.now.hears.listens c.take_turn.new.self.hears.listens c.args.command c.in-Err.fault
    c.args.self.now.unsent.items c.take_turn.new.self.unsent.items c.take_turn.new.seat.view c.requires.silent (c.in-Err.ensures.same ∙ c.requires.silent) c.requires.turn
    (ap (λ u. u.items) c.take_turn.ensures.unsent) c.in-Err.ensures.turned
