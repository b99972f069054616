use Rattle.std.proofs.Common.{arith}
use Rattle.std.proofs.lemmas.Grind.{common_steps}
use Rattle.ballot_law.proofs.rosters.copies_of.Goals as goal

pub loop-master-preserved : goal.loop-master-preserved
loop-master-preserved c = grind (arith, common_steps)
