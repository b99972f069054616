use Rattle.client_commands.proofs.AnswerLines.{said_has_lines}
use Rattle.client_commands.proofs.laws.law_answers_are_values.Goals as goal

pub returns : goal.returns
returns c = said_has_lines
