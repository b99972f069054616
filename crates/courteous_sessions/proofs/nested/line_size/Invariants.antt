use Rattle.std.proofs.Common.{length}
use Rattle.courteous_sessions.proofs.nested.line_size.Given as goal

abbrev pub decreases-loop-rest : goal.decreases-loop-rest
decreases-loop-rest l = length l.rest
