use Rattle.pubsub.proofs.Lines.{said_has_lines, told_has_lines}
use Rattle.pubsub.proofs.laws.law_answers_are_values.Goals as goal

pub returns : goal.returns
returns c = record { answers = said_has_lines; messages = told_has_lines }
