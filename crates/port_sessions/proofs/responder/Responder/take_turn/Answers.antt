use Rattle.port_sessions.proofs.Turning.{turned_ok}
use Rattle.port_sessions.proofs.responder.Responder.take_turn.Goals as goal

pub returns-in-Ok-clause-turned : goal.returns-in-Ok-clause-turned
returns-in-Ok-clause-turned g c =
    turned_ok c.args.cell.now.start c.args.now c.args.seat.now.view c.act.new.seat.view c.args.command _ c.act.new.outbox.shown c.clear.ensures.shown c.in-Ok.ensures.acted
