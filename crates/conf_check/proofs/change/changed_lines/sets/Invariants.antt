use Rattle.std.proofs.Common.{length}
use Rattle.conf_check.proofs.change.changed_lines.sets.Given as goal

abbrev pub decreases-loop-rest : goal.decreases-loop-rest
decreases-loop-rest l = length l.rest
