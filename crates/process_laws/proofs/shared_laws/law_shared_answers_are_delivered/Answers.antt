use Rattle.process_laws.proofs.SharedConnections.{shared_answers_are_delivered}
use Rattle.process_laws.proofs.shared_laws.law_shared_answers_are_delivered.Goals as goal

pub returns : goal.returns
returns c = shared_answers_are_delivered
