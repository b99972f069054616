use Rattle.std.proofs.Common.{◌≡◌, ◌≤◌, ◌+◌, ◌*◌, ◌++◌, take}
use Rattle.std.specs.List.{flat_map}
use Rattle.ballot_law.specs.declared.messages.TheConstants.{SHOWN_MAX}
use Rattle.fault_world.proofs.Told.{news_of_output}
use Rattle.fault_world.proofs.telling.tell_outputs.Given as goal

abbrev pub invariant-loop-output : goal.invariant-loop-output
invariant-loop-output l =
    record {
      entries : l.report.entries ≡ l.fn.report.entries ++ flat_map (news_of_output l.roster l.sentinel) (take l.output-index l.outputs);
      room : l.fn.report.room ≤ l.report.room + SHOWN_MAX * l.output-index;
    }
