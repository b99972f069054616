use Rattle.courteous_sessions.proofs.Keeping.{strangers_take_no_turn}
use Rattle.courteous_sessions.proofs.laws.law_strangers_take_no_turn.Goals as goal

pub returns : goal.returns
returns c = strangers_take_no_turn
