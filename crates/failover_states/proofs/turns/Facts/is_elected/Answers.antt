use Rattle.std.proofs.Common.{rules}
use Rattle.failover_states.proofs.turns.Facts.is_elected.Goals as goal

pub returns : goal.returns
returns c = search rules
