use Rattle.std.proofs.Common.{refl}
use Rattle.sentinel_conf.proofs.reading.at_last_epoch.Goals as goal

pub returns : goal.returns
returns c = refl
