use Rattle.process_laws.proofs.About.{answers_are_about_it}
use Rattle.process_laws.proofs.link_laws.law_answers_are_about_it.Goals as goal

pub returns : goal.returns
returns c = answers_are_about_it
