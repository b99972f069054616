use Rattle.std.proofs.Common.{length}
use Rattle.group_status.proofs.rows.field.Given as goal

abbrev pub decreases-loop-rest : goal.decreases-loop-rest
decreases-loop-rest l = length l.rest
