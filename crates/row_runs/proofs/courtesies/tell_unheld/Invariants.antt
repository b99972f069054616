use Rattle.std.proofs.Common.{length}
use Rattle.row_runs.proofs.courtesies.tell_unheld.Given as goal

abbrev pub decreases-loop-command : goal.decreases-loop-command
decreases-loop-command l = length l.left
