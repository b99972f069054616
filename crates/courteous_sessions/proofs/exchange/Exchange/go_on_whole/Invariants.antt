use Rattle.std.proofs.Common.{◌≡◌, ◌++◌, ℕ, List}
use Rattle.resp2.specs.Framing.Stream.{held_size}
use Rattle.courteous_sessions.specs.Visits.{Guest}
use Rattle.courteous_sessions.specs.OnTheWay.{IsReady, guest_of}
use Rattle.courteous_sessions.specs.GoingOn.{IsWithin, StopsInTime}
use Rattle.courteous_sessions.proofs.exchange.Exchange.go_on_whole.Given as goal

-- the responder is ready, the limit stands where the next value begins, and what was within it is so still, with more answers
abbrev pub invariant-loop-now : goal.invariant-loop-now
invariant-loop-now g l =
    (l.seat.cell ≡ l.initial.seat.cell)
    × IsReady l.self.attendant l.self.subscriptions l.self.responder.hears
    × (l.limit.mark ≡ l.self.attendant.held)
    × ((most : ℕ) (stream before bytes : List ℕ) (visitor : Guest) → l.initial.self.responder.unsent.items ≡ before ++ bytes
    → IsWithin l.fn.cell.start l.fn.now most stream visitor l.initial.limit.most l.initial.self.attendant.held bytes
    (guest_of l.initial.self.attendant l.initial.self.subscriptions l.initial.self.responder.hears l.initial.seat.view)
    → (more : List ℕ) × (l.self.responder.unsent.items ≡ before ++ more)
    × IsWithin l.fn.cell.start l.fn.now most stream visitor l.limit.most l.self.attendant.held more
    (guest_of l.self.attendant l.self.subscriptions l.self.responder.hears l.seat.view))
    × StopsInTime l.fn.cell.start l.fn.now l.initial.self.responder.unsent.items l.self.responder.unsent.items

abbrev pub decreases-loop-now : goal.decreases-loop-now
decreases-loop-now g l = held_size l.self.attendant.held
