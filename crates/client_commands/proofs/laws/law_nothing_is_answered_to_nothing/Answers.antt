use Rattle.client_commands.proofs.AnswerLines.{silent_asks_nothing}
use Rattle.client_commands.proofs.Silence.{unasked_is}
use Rattle.client_commands.proofs.laws.law_nothing_is_answered_to_nothing.Goals as goal

pub returns : goal.returns
returns c = λ roster asker value. (silent_asks_nothing roster asker value, unasked_is roster asker value)
