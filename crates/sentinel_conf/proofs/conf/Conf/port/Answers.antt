use Rattle.std.proofs.Common.{ap, ◌∙◌}
use Rattle.sentinel_conf.specs.Meaning.{ConfPlan}
use Rattle.sentinel_conf.proofs.conf.Conf.port.Goals as goal

pub returns : goal.returns
returns c = c.port.ensures ∙ ap (λ (conf : ConfPlan). conf.port) c.self.view_is
