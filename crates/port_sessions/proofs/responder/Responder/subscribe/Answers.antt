use Rattle.std.proofs.Common.{◌∙◌, sym}
use Rattle.port_sessions.proofs.Replying.{subscribed_silently}
use Rattle.port_sessions.proofs.responder.Responder.subscribe.Goals as goal

pub returns-clause-begins : goal.returns-clause-begins
returns-clause-begins g c =
    subscribed_silently c.args.cell.now.start c.args.now c.take_turn.result c.args.seat.now.view c.args.self.now.hears.listens c.take_turn.new.self.hears.listens
    c.take_turn.new.self.outbox.shown c.take_turn.new.seat.view (sym c.is_some.ensures ∙ c.if-is_some.false) c.take_turn.ensures.listens c.take_turn.ensures.turned
