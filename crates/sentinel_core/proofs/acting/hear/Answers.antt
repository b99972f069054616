use Rattle.sentinel_core.proofs.acting.hear.Goals as goal

pub returns-in-Tick-clause-state : goal.returns-in-Tick-clause-state
returns-in-Tick-clause-state c = rw c.in-Tick.is c.tick.ensures
