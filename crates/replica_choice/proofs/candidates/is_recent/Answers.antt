use Rattle.std.proofs.Common.{refl}
use Rattle.replica_choice.proofs.candidates.is_recent.Goals as goal

pub returns-in-None : goal.returns-in-None
returns-in-None c = rw c.in-None.is refl
