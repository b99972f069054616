use Rattle.std.proofs.Common.{◌≡◌, ℕ, ◌+◌, length, All}
use Rattle.client_port.specs.declared.port.Port.{Port}
use Rattle.client_port.proofs.port.Port.parts.Given as goal

-- each further thread has its part, and wants the same password
abbrev pub invariant-loop-thread : goal.invariant-loop-thread
invariant-loop-thread g l =
    (length l.others.items + 1 ≡ l.thread) × All (λ (port : Port). port.clients.terms.password ≡ l.fn.admission.password) l.others.items
