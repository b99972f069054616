use Rattle.std.proofs.Common.{◌≡◌, drop}
use Rattle.ballot_law.specs.NodePlaces.{node_numbered}
use Rattle.ballot_law.proofs.rosters.Roster.node_numbered.Given as goal

abbrev pub invariant-loop-master : goal.invariant-loop-master
invariant-loop-master l = node_numbered l.self.masters 0 l.number ≡ node_numbered (drop l.master l.self.masters) l.master l.left
