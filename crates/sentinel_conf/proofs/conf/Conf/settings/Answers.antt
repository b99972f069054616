use Rattle.std.proofs.Common.{Some, ap, ◌∙◌}
use Rattle.std.specs.Prelude.{slice_index_or}
use Rattle.sentinel_conf.specs.Facts.{no_settings}
use Rattle.sentinel_conf.specs.Meaning.{ConfPlan}
use Rattle.sentinel_conf.proofs.conf.Conf.settings.Goals as goal

pub returns-clause-known : goal.returns-clause-known
returns-clause-known c = λ within. ap (λ settings. Some (slice_index_or settings c.args.m no_settings))
    (c.settings-settings.ensures ∙ ap (λ (conf : ConfPlan). conf.settings) c.self.view_is)
