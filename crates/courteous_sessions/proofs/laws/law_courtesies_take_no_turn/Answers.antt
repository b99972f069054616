use Rattle.courteous_sessions.proofs.Keeping.{no_turn, passed_over}
use Rattle.courteous_sessions.proofs.laws.law_courtesies_take_no_turn.Goals as goal

pub returns : goal.returns
returns c = record { said = no_turn; silent = passed_over }
