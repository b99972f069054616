use Rattle.std.proofs.Common.{◌≡◌, ◌≤◌, ◌+◌, ◌++◌, take, map}
use Rattle.fault_world.proofs.Told.{entry_of_shown}
use Rattle.fault_world.proofs.telling.tell_shown.Given as goal

abbrev pub invariant-loop-one : goal.invariant-loop-one
invariant-loop-one l =
    record {
      entries : l.report.entries ≡ l.fn.report.entries ++ map (entry_of_shown l.roster l.sentinel) (take l.one-index l.shown);
      room : l.fn.report.room ≤ l.report.room + l.one-index;
    }
