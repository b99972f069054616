use Rattle.std.proofs.Common.{refl}
use Rattle.replica_choice.proofs.candidates.Limits.allow.Goals as goal

pub returns : goal.returns
returns c = refl
