use Rattle.process_laws.proofs.HeardAnswers.{answers_are_heard}
use Rattle.process_laws.proofs.link_laws.law_delivered_answers_are_heard.Goals as goal

pub returns : goal.returns
returns c = answers_are_heard
