use Rattle.sentinel_rules.proofs.Opening.{opened_is_sound}
use Rattle.sentinel_rules.proofs.laws.law_opening_is_sound.Goals as goal

pub returns : goal.returns
returns c = opened_is_sound
