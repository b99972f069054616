use Rattle.std.proofs.Common.{◌≡◌, ◌+◌, ◌≤◌, length}
use Rattle.ballot_law.specs.Cuts.{lines}
use Rattle.conf_check.specs.Errors.Places.{first_line, is_sought}
use Rattle.conf_check.proofs.errors.first_lines.first_line.Given as goal

abbrev pub invariant-loop-rest : goal.invariant-loop-rest
invariant-loop-rest l = record {
  first : first_line (is_sought l.sought) 1 (lines l.bytes) ≡ first_line (is_sought l.sought) l.number (lines l.rest);
  counted : l.number + length l.rest ≤ length l.bytes + 1;
}

abbrev pub decreases-loop-rest : goal.decreases-loop-rest
decreases-loop-rest l = length l.rest
