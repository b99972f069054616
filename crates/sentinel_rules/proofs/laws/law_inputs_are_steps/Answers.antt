use Rattle.sentinel_rules.proofs.InputSteps.{inputs_are_steps}
use Rattle.sentinel_rules.proofs.laws.law_inputs_are_steps.Goals as goal

pub returns : goal.returns
returns c = inputs_are_steps
