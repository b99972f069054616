use Rattle.std.proofs.Common.{length}
use Rattle.sentinel_group.proofs.telling.tell_refused.Given as goal

abbrev pub decreases-loop-rest : goal.decreases-loop-rest
decreases-loop-rest l = length l.rest
