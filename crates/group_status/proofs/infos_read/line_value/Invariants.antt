use Rattle.std.proofs.Common.{length}
use Rattle.group_status.proofs.infos_read.line_value.Given as goal

abbrev pub decreases-loop-rest : goal.decreases-loop-rest
decreases-loop-rest l = length l.rest
