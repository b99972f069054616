use Rattle.std.proofs.Common.{ap, ◌∙◌}
use Rattle.sentinel_rules.specs.Takes.{next}
use Rattle.sentinel_core.specs.Sentinels.{Whole}
use Rattle.sentinel_core.proofs.sentinel.Sentinel.take.Goals as goal

pub returns-clause-core : goal.returns-clause-core
returns-clause-core c =
    c.act.ensures.core
    ∙ ap (λ (s : Whole). (next s.plan s.core c.args.input.now.now c.args.input.now.event).core) c.self.view_is

pub returns-clause-outputs : goal.returns-clause-outputs
returns-clause-outputs c =
    c.act.ensures.held
    ∙ ap (λ (s : Whole). (next s.plan s.core c.args.input.now.now c.args.input.now.event).outputs) c.self.view_is
