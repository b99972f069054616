use Rattle.std.proofs.Common.{arith}
use Rattle.std.proofs.lemmas.Grind.{common_steps}
use Rattle.sentinel_core.proofs.inputs.commands.answer_down.Goals as goal

pub returns-clause-core : goal.returns-clause-core
returns-clause-core c = grind (arith, common_steps)
