use Rattle.std.proofs.Common.{◌≡◌, ◌+◌, ◌≤◌, ◌++◌, map, length}
use Rattle.conf_lines.specs.Lines.{line_of}
use Rattle.sentinel_conf.specs.AllFaults.{unknown_faults}
use Rattle.sentinel_conf.proofs.all_faults.add_unknown.Given as goal

abbrev pub invariant-loop-rest : goal.invariant-loop-rest
invariant-loop-rest l = record {
  added : l.fn.faults.items ++ unknown_faults l.names 1 (map line_of l.lines) ≡ l.faults.items ++ unknown_faults l.names l.number (map line_of l.rest);
  counted : l.number + length l.rest ≤ length l.lines + 1;
}

abbrev pub decreases-loop-rest : goal.decreases-loop-rest
decreases-loop-rest l = length l.rest
