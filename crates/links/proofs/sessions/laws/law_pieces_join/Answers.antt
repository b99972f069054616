use Rattle.links.proofs.SessionsLemmas.Joining.{pieces_join}
use Rattle.links.proofs.sessions.laws.law_pieces_join.Goals as goal

pub returns : goal.returns
returns c = pieces_join
