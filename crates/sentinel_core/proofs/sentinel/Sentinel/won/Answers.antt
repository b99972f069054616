use Rattle.sentinel_core.proofs.sentinel.Sentinel.won.Goals as goal

pub returns-clause-none : goal.returns-clause-none
returns-clause-none c = tt
