use Rattle.process_laws.proofs.Joining.{answers_are_delivered}
use Rattle.process_laws.proofs.link_laws.law_answers_are_delivered.Goals as goal

pub returns : goal.returns
returns c = answers_are_delivered
