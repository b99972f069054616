use Rattle.std.proofs.Common.{◌≡◌, ◌++◌, ℕ, List}
use Rattle.resp2.specs.Framing.Stream.{held_size}
use Rattle.port_sessions.specs.Talks.{Party, party}
use Rattle.port_sessions.specs.GoingOn.{IsWithin}
use Rattle.port_sessions.proofs.exchange.Exchange.go_on_whole.Given as goal

-- the limit stands where the next value begins, and what was within it is so still, with more answers, and no note was told
abbrev pub invariant-loop-progress : goal.invariant-loop-progress
invariant-loop-progress g l =
    (l.seat.cell ≡ l.initial.seat.cell)
    × (l.limit.mark ≡ l.self.frames)
    × (l.self.responder.hears.told ≡ l.initial.self.responder.hears.told)
    × ((most : ℕ) (stream before bytes : List ℕ) (p : Party) → l.initial.self.responder.unsent.items ≡ before ++ bytes
    → IsWithin l.fn.cell.start l.fn.now most stream p l.initial.limit.most l.initial.self.frames bytes (party l.initial.seat.view l.initial.self.responder.hears.listens)
    → (more : List ℕ) × (l.self.responder.unsent.items ≡ before ++ more)
    × IsWithin l.fn.cell.start l.fn.now most stream p l.limit.most l.self.frames more (party l.seat.view l.self.responder.hears.listens))

abbrev pub decreases-loop-progress : goal.decreases-loop-progress
decreases-loop-progress g l = held_size l.self.frames
