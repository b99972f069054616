use Rattle.std.proofs.Common.{◌≡◌, length, None}
use Rattle.std.specs.Prelude.{fold}
use Rattle.ballot_law.specs.Cuts.{lines}
use Rattle.conf_check.specs.Warnings.Nearest.{nearer}
use Rattle.conf_check.proofs.warnings.nearest.nearest.Given as goal

abbrev pub invariant-loop-rest : goal.invariant-loop-rest
invariant-loop-rest l = fold (nearer l.word) None (lines l.table) ≡ fold (nearer l.word) l.best (lines l.rest)

abbrev pub decreases-loop-rest : goal.decreases-loop-rest
decreases-loop-rest l = length l.rest
