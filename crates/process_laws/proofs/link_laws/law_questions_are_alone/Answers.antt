use Rattle.process_laws.proofs.ReadFiles.{questions_are_alone}
use Rattle.process_laws.proofs.link_laws.law_questions_are_alone.Goals as goal

pub returns : goal.returns
returns c = questions_are_alone
