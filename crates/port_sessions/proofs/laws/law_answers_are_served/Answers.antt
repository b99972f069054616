use Rattle.port_sessions.proofs.Served.{answers_are_served}
use Rattle.port_sessions.proofs.laws.law_answers_are_served.Goals as goal

pub returns : goal.returns
returns c = answers_are_served
