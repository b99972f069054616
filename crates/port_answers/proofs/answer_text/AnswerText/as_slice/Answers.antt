use Rattle.std.proofs.Common.{rules}
use Rattle.port_answers.proofs.answer_text.AnswerText.as_slice.Goals as goal

pub returns-clause-value : goal.returns-clause-value
returns-clause-value c = search rules
