use Rattle.std.proofs.Common.{rules}
use Rattle.replica_choice.proofs.candidates.Candidate.beats.Goals as goal

pub returns-then-self-other : goal.returns-then-self-other
returns-then-self-other c = search rules

pub returns-then-self-other-2 : goal.returns-then-self-other-2
returns-then-self-other-2 c = search rules
