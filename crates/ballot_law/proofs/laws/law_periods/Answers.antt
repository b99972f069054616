use Rattle.std.proofs.Common.{refl}
use Rattle.ballot_law.proofs.laws.law_periods.Goals as goal

pub returns-clause-tilt : goal.returns-clause-tilt
returns-clause-tilt c = refl
