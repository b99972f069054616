use Rattle.process_laws.proofs.LateRun.{late_answers_happen}
use Rattle.process_laws.proofs.laws.law_late_answers_happen.Goals as goal

pub returns : goal.returns
returns c = late_answers_happen
