use Rattle.std.proofs.Common.{◌++◌, ℕ, List, Option, refl}
use Rattle.port_sessions.specs.Talks.{Talk, party, Breaks}
use Rattle.port_sessions.proofs.Told.{has_closed}
use Rattle.port_sessions.proofs.session.Session.received.Goals as goal

pub returns-in-Err-clause-received : goal.returns-in-Err-clause-received
returns-in-Err-clause-received g c =
    has_closed
    (λ (t : Talk) (bytes : List ℕ) (since : Option ℕ).
    Breaks c.args.cell.now.start c.args.now (t.held ++ c.args.piece.now) (party c.args.seat.now.view t.listens) c.in-Err.fault bytes (party c.take_piece.new.seat.view since)) _ _
    c.take_piece.new.self.responder.unsent.items c.close.new.self.responder.unsent.items c.take_piece.new.self.responder.hears.listens c.close.new.self.responder.hears.listens
    c.self.view_is c.close.ensures.unsent c.close.ensures.silent c.in-Err.ensures.received

pub returns-in-Err-clause-closed : goal.returns-in-Err-clause-closed
returns-in-Err-clause-closed g c = refl
