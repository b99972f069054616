use Rattle.std.proofs.Common.{◌∙◌}
use Rattle.sentinel_conf.proofs.conf_text.ConfText.as_slice.Goals as goal

pub returns : goal.returns
returns c = c.as_slice.ensures.same ∙ c.self.view_is
