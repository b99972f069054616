use Rattle.std.proofs.Common.{◌≡◌, take}
use Rattle.ballot_law.proofs.rosters.copies_of.Given as goal

abbrev pub invariant-loop-master : goal.invariant-loop-master
invariant-loop-master l = l.copies.items ≡ take l.master-index l.masters
