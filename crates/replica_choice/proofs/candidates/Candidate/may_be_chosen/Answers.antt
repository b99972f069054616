use Rattle.std.proofs.Common.{rules}
use Rattle.replica_choice.proofs.candidates.Candidate.may_be_chosen.Goals as goal

pub returns-then-is_recent : goal.returns-then-is_recent
returns-then-is_recent c = search rules

pub returns-else-is_recent : goal.returns-else-is_recent
returns-else-is_recent c = search rules
