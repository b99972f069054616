use Rattle.std.proofs.Common.{arith}
use Rattle.std.proofs.lemmas.Grind.{common_steps}
use Rattle.sentinel_core.proofs.inputs.replies.hear_answer.Goals as goal

pub returns-then-m-master_count : goal.returns-then-m-master_count
returns-then-m-master_count c = grind (arith, common_steps)
