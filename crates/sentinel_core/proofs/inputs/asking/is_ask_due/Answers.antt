use Rattle.std.proofs.Common.{arith}
use Rattle.std.proofs.lemmas.Grind.{common_steps}
use Rattle.sentinel_core.proofs.inputs.asking.is_ask_due.Goals as goal

pub returns-then-started : goal.returns-then-started
returns-then-started c = grind (arith, common_steps)
