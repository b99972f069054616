use Rattle.std.proofs.Common.{◌≡◌, List, ℕ, Option, ◌+◌, ◌≤◌}
use Rattle.resp2.specs.Framing.Stream.{held_size}
use Rattle.sentinel_rules.specs.States.{Core}
use Rattle.sentinel_outbox.specs.declared.phase.Phase.TheVariants.{Ready}
use Rattle.sentinel_core.specs.Serving.Serving.{IsAnswered}
use Rattle.sentinel_core.proofs.serving.connection.Connection.answer_whole.Given as goal

abbrev pub invariant-loop-asked : goal.invariant-loop-asked
invariant-loop-asked g l =
    (l.self.answers + held_size l.self.frames ≤ l.initial.self.answers + held_size l.initial.self.frames)
    × ((first : Core) (before : Option (List ℕ)) (input written : List ℕ)
    → IsAnswered (g.N.PortSentinel.plan l.initial.sentinel) l.initial.self.clock first before input written l.initial.self.frames (g.N.PortSentinel.core l.initial.sentinel)
    l.initial.self.text l.initial.self.answers (g.S.ConfStore.held l.initial.store)
    → IsAnswered (g.N.PortSentinel.plan l.initial.sentinel) l.initial.self.clock first before input written l.self.frames (g.N.PortSentinel.core l.sentinel) l.self.text
    l.self.answers (g.S.ConfStore.held l.store))
    × (l.self.clock ≡ l.initial.self.clock)
    × (g.N.PortSentinel.plan l.sentinel ≡ g.N.PortSentinel.plan l.initial.sentinel)
    × (g.N.PortSentinel.phase l.sentinel ≡ Ready)
    × (g.S.ConfStore.failure_count l.store ≡ g.S.ConfStore.failure_count l.initial.store)

abbrev pub decreases-loop-asked : goal.decreases-loop-asked
decreases-loop-asked g l = held_size l.self.frames
