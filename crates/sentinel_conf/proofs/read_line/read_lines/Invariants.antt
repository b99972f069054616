use Rattle.std.proofs.Common.{◌≡◌, ◌++◌, length}
use Rattle.ballot_law.specs.Cuts.{lines}
use Rattle.sentinel_conf.proofs.read_line.read_lines.Given as goal

abbrev pub invariant-loop-rest : goal.invariant-loop-rest
invariant-loop-rest l = lines l.bytes ≡ l.list.items ++ lines l.rest

abbrev pub decreases-loop-rest : goal.decreases-loop-rest
decreases-loop-rest l = length l.rest
