use Rattle.std.proofs.Common.{◌≡◌, ◌++◌, ℕ, List}
use Rattle.resp2.specs.Framing.Stream.{held_size}
use Rattle.port_sessions.specs.Talks.{Party, party}
use Rattle.port_sessions.specs.OnTheWay.{IsOnTheWay}
use Rattle.port_sessions.proofs.exchange.Exchange.answer_whole.Given as goal

-- what was on the way is so still, with more answers, and no note was told
abbrev pub invariant-loop-fault : goal.invariant-loop-fault
invariant-loop-fault g l =
    (l.seat.cell ≡ l.initial.seat.cell)
    × (l.self.responder.hears.told ≡ l.initial.self.responder.hears.told)
    × ((stream before bytes : List ℕ) (p : Party) → l.initial.self.responder.unsent.items ≡ before ++ bytes
    → IsOnTheWay l.fn.cell.start l.fn.now stream p l.initial.self.frames bytes (party l.initial.seat.view l.initial.self.responder.hears.listens)
    → (more : List ℕ) × (l.self.responder.unsent.items ≡ before ++ more)
    × IsOnTheWay l.fn.cell.start l.fn.now stream p l.self.frames more (party l.seat.view l.self.responder.hears.listens))

abbrev pub decreases-loop-fault : goal.decreases-loop-fault
decreases-loop-fault g l = held_size l.self.frames
