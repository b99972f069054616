use Rattle.courteous_sessions.proofs.Keeping.{tells_as_it_is, own_in_three, confirms_by_pushes}
use Rattle.courteous_sessions.proofs.laws.law_protocols_tell_the_same_answers.Goals as goal

pub returns : goal.returns
returns c = record { two = tells_as_it_is; three = own_in_three; channels = confirms_by_pushes }
