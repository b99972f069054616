use Rattle.fault_world.specs.Standing.{IsShown, Stands}
use Rattle.fault_world.specs.Seats.{IsSeat}
use Rattle.story_runs.proofs.worlds.run_one_by_one.Given as goal

abbrev pub invariant-loop-k : goal.invariant-loop-k
invariant-loop-k g l = Stands l.world.roster (IsShown (λ m. m.name)
    (λ m. IsSeat m.name ((goal.Node-dyn g (m.node.vtable, m.node.value)).name m.node.value) ((goal.Node-dyn g (m.node.vtable, m.node.value)).shows m.node.value)
    m.outbox.held m.stopped) l.world.roster l.world.members.items l.world.messages.items)
