use Rattle.process_laws.proofs.SharedConnections.{later_questions_wait}
use Rattle.process_laws.proofs.shared_laws.law_later_questions_wait.Goals as goal

pub returns : goal.returns
returns c = later_questions_wait
