use Rattle.std.proofs.Common.{◌≡◌, map}
use Rattle.ballot_law.specs.Rosters.{nodes_in_order}
use Rattle.ballot_law.proofs.rosters.with_nodes_in_order.Given as goal

abbrev pub invariant-loop-master : goal.invariant-loop-master
invariant-loop-master l = l.list.items ≡ map nodes_in_order l.yielded
