use Rattle.std.proofs.Common.{rules}
use Rattle.ballot_law.proofs.rosters.first_fault.Goals as goal

pub returns-clause-small : goal.returns-clause-small
returns-clause-small c = search rules
