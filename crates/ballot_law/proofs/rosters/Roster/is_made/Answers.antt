use Rattle.std.proofs.Common.{subst}
use Rattle.ballot_law.specs.RosterFaults.{IsRoster}
use Rattle.ballot_law.proofs.RosterLemmas.{distinct_ids, distinct_names}
use Rattle.ballot_law.proofs.rosters.Roster.is_made.Goals as goal

pub returns-clause-ids : goal.returns-clause-ids
returns-clause-ids c = distinct_ids c.args.self.now (subst IsRoster c.self.view_is c.self.invariant)

pub returns-clause-names : goal.returns-clause-names
returns-clause-names c = distinct_names c.args.self.now (subst IsRoster c.self.view_is c.self.invariant)
