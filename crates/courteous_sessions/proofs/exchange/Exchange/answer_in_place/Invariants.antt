use Rattle.std.proofs.Common.{◌≡◌, ◌++◌, ℕ, List, length}
use Rattle.resp2.specs.Framing.Stream.{reading, bytes_in}
use Rattle.courteous_sessions.specs.OnTheWay.{IsReady, guest_of}
use Rattle.courteous_sessions.specs.GoingOn.{IsWithin, StopsInTime}
use Rattle.courteous_sessions.proofs.exchange.Exchange.answer_in_place.Given as goal

-- nothing of what is known changes, and what was within it is so still, with more answers
abbrev pub invariant-loop-rest : goal.invariant-loop-rest
invariant-loop-rest g l =
    (l.seat.cell ≡ l.initial.seat.cell)
    × IsReady l.self.attendant l.self.subscriptions l.self.responder.hears
    × (l.self.attendant ≡ l.initial.self.attendant)
    × (l.self.subscriptions ≡ l.initial.self.subscriptions)
    × (l.self.direct ≡ l.initial.self.direct)
    × ((most : ℕ) → (more : List ℕ) × (l.self.responder.unsent.items ≡ l.initial.self.responder.unsent.items ++ more)
    × IsWithin l.fn.cell.start l.fn.now most (bytes_in l.initial.self.attendant.held ++ l.fn.piece)
    (guest_of l.initial.self.attendant l.initial.self.subscriptions l.initial.self.responder.hears l.initial.seat.view) most (reading l.rest) more
    (guest_of l.self.attendant l.self.subscriptions l.self.responder.hears l.seat.view))
    × StopsInTime l.fn.cell.start l.fn.now l.initial.self.responder.unsent.items l.self.responder.unsent.items

abbrev pub decreases-loop-rest : goal.decreases-loop-rest
decreases-loop-rest g l = length l.rest
