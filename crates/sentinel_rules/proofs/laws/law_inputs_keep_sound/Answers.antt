use Rattle.sentinel_rules.proofs.SoundInputs.{inputs_keep_few}
use Rattle.sentinel_rules.proofs.laws.law_inputs_keep_sound.Goals as goal

pub returns : goal.returns
returns c = inputs_keep_few
