use Rattle.ballot_law.proofs.Runs.{runs_join, steps_join}
use Rattle.ballot_law.proofs.laws.law_runs_join.Goals as goal

pub returns-clause-of_moves : goal.returns-clause-of_moves
returns-clause-of_moves c = runs_join

pub returns-clause-of_steps : goal.returns-clause-of_steps
returns-clause-of_steps c = steps_join
