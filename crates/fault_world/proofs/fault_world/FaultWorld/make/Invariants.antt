use Rattle.std.proofs.Common.{◌≡◌, take}
use Rattle.ballot_law.specs.Worlds.{World}
use Rattle.fault_world.specs.Standing.{IsShown}
use Rattle.fault_world.specs.Seats.{IsSeat}
use Rattle.fault_world.specs.Runs.{RunsTo}
use Rattle.fault_world.proofs.fault_world.FaultWorld.make.Given as goal

abbrev pub invariant-loop-k : goal.invariant-loop-k
invariant-loop-k g l =
    record {
      run : (w : World)
          → IsShown (λ m. m.name) (λ m. IsSeat m.name ((goal.Node-dyn g (m.node.vtable, m.node.value)).name m.node.value)
          ((goal.Node-dyn g (m.node.vtable, m.node.value)).shows m.node.value) m.outbox.held m.stopped) l.fn.self.roster l.fn.self.members.items l.fn.self.messages.items w
          → RunsTo l.fn.self.roster (take l.k l.steps) w l.report.entries
          (IsShown (λ m. m.name) (λ m. IsSeat m.name ((goal.Node-dyn g (m.node.vtable, m.node.value)).name m.node.value)
          ((goal.Node-dyn g (m.node.vtable, m.node.value)).shows m.node.value) m.outbox.held m.stopped) l.fn.self.roster l.self.members.items l.self.messages.items);
      roster : l.self.roster ≡ l.fn.self.roster;
    }
