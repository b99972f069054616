use Rattle.std.proofs.Common.{◌≡◌, ◌+◌, ◌≤◌, ◌++◌, map, length}
use Rattle.conf_lines.specs.Lines.{line_of}
use Rattle.sentinel_conf.specs.Meaning.{states}
use Rattle.sentinel_conf.specs.Reading.{faults, line_fault}
use Rattle.sentinel_conf.specs.AllFaults.{line_faults}
use Rattle.sentinel_conf.proofs.all_faults.judge_each.Given as goal

abbrev pub invariant-loop-rest : goal.invariant-loop-rest
invariant-loop-rest l = record {
  stated : states (map line_of l.lines) ≡ l.judged.states.items ++ states (map line_of l.rest);
  faults : line_faults (map line_of l.lines) ≡ l.judged.faults.items ++ faults line_fault l.number l.judged.states.items (map line_of l.rest);
  counted : l.number + length l.rest ≤ length l.lines + 1;
}

abbrev pub decreases-loop-rest : goal.decreases-loop-rest
decreases-loop-rest l = length l.rest
