use Rattle.std.proofs.Common.{◌≡◌, ◌++◌, ℕ, List}
use Rattle.resp2.specs.Framing.Stream.{held_size}
use Rattle.courteous_sessions.specs.Visits.{Guest}
use Rattle.courteous_sessions.specs.OnTheWay.{IsReady, IsOnTheWay, guest_of}
use Rattle.courteous_sessions.proofs.exchange.Exchange.answer_whole.Given as goal

-- the responder is ready, and what was on the way is so still, with more answers
abbrev pub invariant-loop-self : goal.invariant-loop-self
invariant-loop-self g l =
    (l.seat.cell ≡ l.initial.seat.cell)
    × IsReady l.self.attendant l.self.subscriptions l.self.responder.hears
    × ((stream before bytes : List ℕ) (visitor : Guest) → l.initial.self.responder.unsent.items ≡ before ++ bytes
    → IsOnTheWay l.fn.cell.start l.fn.now stream visitor l.initial.self.attendant.held bytes
    (guest_of l.initial.self.attendant l.initial.self.subscriptions l.initial.self.responder.hears l.initial.seat.view)
    → (more : List ℕ) × (l.self.responder.unsent.items ≡ before ++ more)
    × IsOnTheWay l.fn.cell.start l.fn.now stream visitor l.self.attendant.held more (guest_of l.self.attendant l.self.subscriptions l.self.responder.hears l.seat.view))

abbrev pub decreases-loop-self : goal.decreases-loop-self
decreases-loop-self g l = held_size l.self.attendant.held
