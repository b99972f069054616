use Rattle.std.proofs.Common.{refl}
use Rattle.failover_states.proofs.failovers.Failover.mark.Goals as goal

pub returns : goal.returns
returns c = rw (← c.self.view_is, c.clock_of.ensures) refl
