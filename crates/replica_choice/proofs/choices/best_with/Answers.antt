use Rattle.std.proofs.Common.{arith}
use Rattle.std.proofs.lemmas.Grind.{common_steps}
use Rattle.replica_choice.proofs.choices.best_with.Goals as goal

pub returns-in-Some-clause-value : goal.returns-in-Some-clause-value
returns-in-Some-clause-value c = grind (arith, common_steps)

pub returns-in_default-clause-value : goal.returns-in_default-clause-value
returns-in_default-clause-value c = grind (arith, common_steps)
