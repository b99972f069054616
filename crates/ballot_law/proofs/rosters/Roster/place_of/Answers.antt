use Rattle.std.proofs.Common.{rules}
use Rattle.ballot_law.proofs.rosters.Roster.place_of.Goals as goal

pub returns-clause-some : goal.returns-clause-some
returns-clause-some c = search rules
