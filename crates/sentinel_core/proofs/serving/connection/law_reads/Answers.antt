use Rattle.std.proofs.Common.{refl}
use Rattle.sentinel_core.proofs.serving.connection.law_reads.Goals as goal

pub returns : goal.returns
returns c = refl
