use Rattle.std.proofs.Common.{◌∙◌, sym}
use Rattle.port_sessions.proofs.Stepping.{piece_drained, still_open, was_received}
use Rattle.port_sessions.specs.Talks.{party}
use Rattle.port_sessions.proofs.exchange.Exchange.take_piece.Goals as goal

pub returns-clause-open : goal.returns-clause-open
returns-clause-open g c =
    let q = party c.answer_whole.new.seat.view c.answer_whole.new.self.responder.hears.listens in
    let done = piece_drained c.args.cell.now.start c.args.now c.feed.result c.answer_whole.result c.args.self.now.frames c.feed.new.self c.answer_whole.new.self.frames
    c.args.piece.now
    c.args.self.now.responder.unsent.items c.answer_whole.new.self.responder.unsent.items (party c.args.seat.now.view c.args.self.now.responder.hears.listens) q c.requires.open
    (sym c.is_err.ensures.value ∙ c.if-is_err.false) c.feed.ensures c.answer_whole.ensures.answered in
    still_open c.args.cell.now.start c.args.now c.answer_whole.result _ _ c.answer_whole.new.self.frames done.0 q done.2

pub returns-clause-received : goal.returns-clause-received
returns-clause-received g c =
    let q = party c.answer_whole.new.seat.view c.answer_whole.new.self.responder.hears.listens in
    let done = piece_drained c.args.cell.now.start c.args.now c.feed.result c.answer_whole.result c.args.self.now.frames c.feed.new.self c.answer_whole.new.self.frames
    c.args.piece.now
    c.args.self.now.responder.unsent.items c.answer_whole.new.self.responder.unsent.items (party c.args.seat.now.view c.args.self.now.responder.hears.listens) q c.requires.open
    (sym c.is_err.ensures.value ∙ c.if-is_err.false) c.feed.ensures c.answer_whole.ensures.answered in
    (done.0, done.1, was_received c.args.cell.now.start c.args.now c.answer_whole.result _ _ c.answer_whole.new.self.frames done.0 q done.2)
