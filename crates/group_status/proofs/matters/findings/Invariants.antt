-- What was found, and then what isn't well of the rest, is what isn't well of all.
use Rattle.std.proofs.Common.{◌≡◌, ◌++◌, length}
use Rattle.group_status.specs.Wellness.{unwell}
use Rattle.group_status.proofs.matters.findings.Given as goal

abbrev pub invariant-loop-rest : goal.invariant-loop-rest
invariant-loop-rest l = l.found.items ++ unwell l.rest ≡ unwell l.matters

abbrev pub decreases-loop-rest : goal.decreases-loop-rest
decreases-loop-rest l = length l.rest
