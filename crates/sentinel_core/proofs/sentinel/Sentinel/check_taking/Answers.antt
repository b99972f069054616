use Rattle.std.proofs.Common.{ap, refl, sym, ◌∙◌}
use Rattle.sentinel_core.specs.Sentinels.{Whole}
use Rattle.sentinel_core.proofs.sentinel.Sentinel.check_taking.Goals as goal

pub returns-in-Halted-clause-halted : goal.returns-in-Halted-clause-halted
returns-in-Halted-clause-halted c = (λ refused. sym (ap (λ (w : Whole). w.phase) c.self.view_is) ∙ c.in-Halted.is, λ halted. refl)

pub returns-in-Halted-clause-ready : goal.returns-in-Halted-clause-ready
returns-in-Halted-clause-ready c = tt

pub returns-in-Halted-clause-fits : goal.returns-in-Halted-clause-fits
returns-in-Halted-clause-fits c = tt
