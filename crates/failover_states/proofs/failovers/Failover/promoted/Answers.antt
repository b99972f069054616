use Rattle.std.proofs.Common.{rules}
use Rattle.failover_states.proofs.failovers.Failover.promoted.Goals as goal

pub returns-in_default-clause-card : goal.returns-in_default-clause-card
returns-in_default-clause-card c = search rules
