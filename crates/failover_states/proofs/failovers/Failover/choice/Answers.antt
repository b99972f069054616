use Rattle.std.proofs.Common.{refl}
use Rattle.failover_states.proofs.failovers.Failover.choice.Goals as goal

pub returns-in-UpdateConfig : goal.returns-in-UpdateConfig
returns-in-UpdateConfig c = rw (← c.self.view_is, c.in-UpdateConfig.is) refl
