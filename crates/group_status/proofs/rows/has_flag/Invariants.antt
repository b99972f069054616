use Rattle.std.proofs.Common.{length}
use Rattle.ballot_law.specs.Cuts.{cut_at}
use Rattle.group_status.proofs.rows.has_flag.Given as goal

abbrev pub decreases-loop-first : goal.decreases-loop-first
decreases-loop-first l = length (cut_at 44 l.rest)
