use Rattle.std.proofs.Common.{ap, refl, sym, ◌∙◌}
use Rattle.sentinel_core.specs.Sentinels.{Whole}
use Rattle.sentinel_core.proofs.sentinel.Sentinel.release.Goals as goal

pub returns-in-Pending-clause-unstored : goal.returns-in-Pending-clause-unstored
returns-in-Pending-clause-unstored c =
    let pending = sym (ap (λ (w : Whole). w.phase) c.self.view_is) ∙ c.in-Pending.is in
    (λ refused. (λ halted. let no : ⊥ = cc in no, λ stored. let no : ⊥ = cc in no), λ other. refl)

pub returns-in-Pending-clause-ready : goal.returns-in-Pending-clause-ready
returns-in-Pending-clause-ready c = tt

pub returns-in-Pending-clause-was_stored : goal.returns-in-Pending-clause-was_stored
returns-in-Pending-clause-was_stored c = tt
