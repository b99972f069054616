use Rattle.courteous_sessions.proofs.SameValues.{says_the_same, plain_is_spelled}
use Rattle.courteous_sessions.proofs.laws.law_protocols_say_the_same.Goals as goal

pub returns : goal.returns
returns c = record { values = says_the_same; copied = plain_is_spelled }
