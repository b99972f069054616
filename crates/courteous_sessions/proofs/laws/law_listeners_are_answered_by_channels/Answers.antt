use Rattle.courteous_sessions.proofs.Keeping.{listeners_answered}
use Rattle.courteous_sessions.proofs.laws.law_listeners_are_answered_by_channels.Goals as goal

pub returns : goal.returns
returns c = listeners_answered
