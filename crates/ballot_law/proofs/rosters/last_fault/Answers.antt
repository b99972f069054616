use Rattle.std.proofs.Common.{rules}
use Rattle.ballot_law.proofs.rosters.last_fault.Goals as goal

pub returns-then-has_repeats : goal.returns-then-has_repeats
returns-then-has_repeats c = search rules
