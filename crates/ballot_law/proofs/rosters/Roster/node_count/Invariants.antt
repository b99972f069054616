use Rattle.ballot_law.proofs.NodeCounts.{CountedTo}
use Rattle.ballot_law.proofs.rosters.Roster.node_count.Given as goal

abbrev pub invariant-loop-master : goal.invariant-loop-master
invariant-loop-master l = CountedTo l.self.masters l.master-index l.count
