use Rattle.courteous_sessions.proofs.Keeping.{own_as_before, hears_all, hears_near, hears_far}
use Rattle.courteous_sessions.proofs.laws.law_own_commands_are_answered_as_before.Goals as goal

pub returns : goal.returns
returns c = record { answered = own_as_before; untold = hears_all; near = hears_near; far = hears_far }
