use Rattle.std.proofs.Common.{rules}
use Rattle.failover_states.proofs.failovers.Failover.new.Goals as goal

pub returns : goal.returns
returns c = search rules
