use Rattle.std.proofs.Common.{rules}
use Rattle.sentinel_core.proofs.sentinel.Sentinel.address_now.Goals as goal

pub returns-clause-some : goal.returns-clause-some
returns-clause-some c = search rules
