use Rattle.std.proofs.Common.{◌≡◌, length}
use Rattle.fault_world.specs.Standing.{IsShown}
use Rattle.fault_world.specs.Seats.{IsSeat}
use Rattle.scenario_replay.proofs.Tracing.{TracedTo}
use Rattle.scenario_replay.proofs.traces.trace.Given as goal

abbrev pub invariant-loop-rest : goal.invariant-loop-rest
invariant-loop-rest g l =
    record {
      traced : TracedTo l.fn.profile l.world.roster l.scenario l.rest (IsShown (λ m. m.name)
          (λ m. IsSeat m.name ((goal.Node-dyn g (m.node.vtable, m.node.value)).name m.node.value) ((goal.Node-dyn g (m.node.vtable, m.node.value)).shows m.node.value)
          m.outbox.held m.stopped) l.world.roster l.world.members.items l.world.messages.items);
      roster : l.world.roster ≡ l.fn.world.roster;
    }

abbrev pub decreases-loop-rest : goal.decreases-loop-rest
decreases-loop-rest g l = length l.rest
