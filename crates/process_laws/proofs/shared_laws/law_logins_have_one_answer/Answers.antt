use Rattle.process_laws.proofs.Logins.{logins_have_one_answer}
use Rattle.process_laws.proofs.shared_laws.law_logins_have_one_answer.Goals as goal

pub returns : goal.returns
returns c = logins_have_one_answer
