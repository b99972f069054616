use Rattle.courteous_sessions.proofs.Joining.{pieces_join}
use Rattle.courteous_sessions.proofs.laws.law_pieces_join.Goals as goal

pub returns : goal.returns
returns c = pieces_join
