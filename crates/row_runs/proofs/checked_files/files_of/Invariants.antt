use Rattle.std.proofs.Common.{length}
use Rattle.row_runs.proofs.checked_files.files_of.Given as goal

abbrev pub decreases-loop-rest : goal.decreases-loop-rest
decreases-loop-rest l = length l.rest
