use Rattle.std.proofs.Common.{rules}
use Rattle.failover_states.proofs.failovers.is_past_last_start.Goals as goal

pub returns-in-Some : goal.returns-in-Some
returns-in-Some c = search rules
