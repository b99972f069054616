use Rattle.std.proofs.Common.{refl}
use Rattle.ballot_law.proofs.laws.law_limits.Goals as goal

pub returns-clause-masters : goal.returns-clause-masters
returns-clause-masters c = refl
