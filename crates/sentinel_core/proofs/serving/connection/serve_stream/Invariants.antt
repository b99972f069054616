use Rattle.std.proofs.Common.{◌≡◌, List, ℕ, length, ◌+◌, ◌*◌, ◌≤◌}
use Rattle.std.specs.Io.KnownBytes.{Consumes, Appends}
use Rattle.resp2.specs.Framing.Stream.{held_size}
use Rattle.sentinel_outbox.specs.declared.phase.Phase.TheVariants.{Ready}
use Rattle.sentinel_core.specs.Serving.Serving.{IsIdle}
use Rattle.sentinel_core.proofs.serving.connection.serve_stream.Given as goal

-- what was read so far was answered, all answers were written, and the store holds what they rest on
abbrev pub invariant-loop-turn : goal.invariant-loop-turn
invariant-loop-turn g l =
    (l.connection.answers + held_size l.connection.frames ≤ l.turn * 16384)
    × ((input : List ℕ)
    × (written : List ℕ)
    × Consumes (g.R.Read.remaining l.fn.reader) (g.R.Read.remaining l.reader) input
    × Appends (g.W.Write.contents l.fn.writer) (g.W.Write.contents l.writer) written
    × IsIdle (g.N.PortSentinel.plan l.fn.sentinel) l.fn.now (g.N.PortSentinel.core l.fn.sentinel) (g.S.ConfStore.held l.fn.store) input written l.connection.frames
    (g.N.PortSentinel.core l.sentinel) l.connection.text l.connection.answers (g.S.ConfStore.held l.store)
    × (length input ≤ l.turn * 16384))
    × (l.connection.clock ≡ l.fn.now)
    × (g.N.PortSentinel.plan l.sentinel ≡ g.N.PortSentinel.plan l.fn.sentinel)
    × (g.N.PortSentinel.phase l.sentinel ≡ Ready)
    × (g.S.ConfStore.failure_count l.store ≡ g.S.ConfStore.failure_count l.fn.store)
