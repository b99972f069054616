use Rattle.std.proofs.Common.{◌++◌, ℕ, List, Option}
use Rattle.port_sessions.specs.GoingOn.{BreaksWithin}
use Rattle.port_sessions.specs.Talks.{Talk, party}
use Rattle.port_sessions.proofs.Told.{has_closed}
use Rattle.port_sessions.proofs.session.Session.go_on.Goals as goal

pub returns-in-Err-clause-goes_on : goal.returns-in-Err-clause-goes_on
returns-in-Err-clause-goes_on g c =
    has_closed
    (λ (t : Talk) (bytes : List ℕ) (since : Option ℕ).
    BreaksWithin c.args.cell.now.start c.args.now c.args.most (t.held ++ c.args.piece.now) (party c.args.seat.now.view t.listens) c.in-Err.fault bytes
    (party c.take_some.new.seat.view since)) _ _ c.take_some.new.self.responder.unsent.items c.close.new.self.responder.unsent.items
    c.take_some.new.self.responder.hears.listens c.close.new.self.responder.hears.listens c.self.view_is c.close.ensures.unsent c.close.ensures.silent
    c.in-Err.ensures.received
