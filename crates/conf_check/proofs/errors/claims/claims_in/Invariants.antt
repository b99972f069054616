use Rattle.std.proofs.Common.{◌≡◌, ◌+◌, ◌-◌, ◌^◌, ◌≤◌, ◌<◌, ◌++◌, map, length}
use Rattle.ballot_law.specs.Cuts.{lines}
use Rattle.conf_lines.specs.Lines.{line_of}
use Rattle.conf_check.specs.Errors.Claims.{claims_from}
use Rattle.conf_check.proofs.errors.claims.claims_in.Given as goal

abbrev pub invariant-loop-rest : goal.invariant-loop-rest
invariant-loop-rest l = record {
  said : claims_from l.own 1 (map line_of (lines l.bytes)) ≡ l.list.items ++ claims_from l.own l.number (map line_of l.rest);
  counted : l.number + length l.rest ≤ length (lines l.bytes) + 1;
  room : length (lines l.bytes) < 2 ^ 64 - 1;
}

abbrev pub decreases-loop-rest : goal.decreases-loop-rest
decreases-loop-rest l = length l.rest
