use Rattle.std.proofs.Common.{◌++◌, ◌∙◌, sym}
use Rattle.resp2.specs.Framing.Stream.{bytes_in}
use Rattle.port_sessions.proofs.GoingOn.{none_taken, piece_within, still_open, was_taken}
use Rattle.port_sessions.specs.Talks.{party}
use Rattle.port_sessions.proofs.exchange.Exchange.take_some.Goals as goal

pub returns-then-is_err-clause-received : goal.returns-then-is_err-clause-received
returns-then-is_err-clause-received g c =
    none_taken c.args.cell.now.start c.args.now c.args.most (bytes_in c.args.self.now.frames ++ c.args.piece.now) (party c.args.seat.now.view c.args.self.now.responder.hears.listens)
    c.args.self.now.responder.unsent.items

pub returns-in_default-clause-received : goal.returns-in_default-clause-received
returns-in_default-clause-received g c =
    none_taken c.args.cell.now.start c.args.now c.args.most (bytes_in c.args.self.now.frames ++ c.args.piece.now) (party c.args.seat.now.view c.args.self.now.responder.hears.listens)
    c.args.self.now.responder.unsent.items

pub returns-clause-open : goal.returns-clause-open
returns-clause-open g c =
    let q = party c.go_on_whole.new.seat.view c.go_on_whole.new.self.responder.hears.listens in
    let p = party c.args.seat.now.view c.args.self.now.responder.hears.listens in
    let stream = bytes_in c.args.self.now.frames ++ c.args.piece.now in
    let done = piece_within c.args.cell.now.start c.args.now c.args.most c.in-Ok.limit.most c.feed.result c.go_on_whole.result c.args.self.now.frames c.feed.new.self
    c.go_on_whole.new.self.frames c.args.piece.now c.args.self.now.responder.unsent.items c.go_on_whole.new.self.responder.unsent.items p q c.requires.open
    (sym c.is_err.ensures.value ∙ c.if-is_err.false) c.feed.ensures c.in-Ok.ensures.1 c.go_on_whole.ensures.answered in
    still_open c.args.cell.now.start c.args.now c.args.most stream p c.go_on_whole.result c.go_on_whole.new.self.frames done.0 q done.2

pub returns-clause-received : goal.returns-clause-received
returns-clause-received g c =
    let q = party c.go_on_whole.new.seat.view c.go_on_whole.new.self.responder.hears.listens in
    let p = party c.args.seat.now.view c.args.self.now.responder.hears.listens in
    let stream = bytes_in c.args.self.now.frames ++ c.args.piece.now in
    let done = piece_within c.args.cell.now.start c.args.now c.args.most c.in-Ok.limit.most c.feed.result c.go_on_whole.result c.args.self.now.frames c.feed.new.self
    c.go_on_whole.new.self.frames c.args.piece.now c.args.self.now.responder.unsent.items c.go_on_whole.new.self.responder.unsent.items p q c.requires.open
    (sym c.is_err.ensures.value ∙ c.if-is_err.false) c.feed.ensures c.in-Ok.ensures.1 c.go_on_whole.ensures.answered in
    (done.0, done.1, was_taken c.args.cell.now.start c.args.now c.args.most stream p c.go_on_whole.result c.go_on_whole.new.self.frames done.0 q done.2)
