use Rattle.std.proofs.Common.{◌≡◌, take}
use Rattle.std.specs.List.{flat_map}
use Rattle.boxed_nodes.proofs.clients.group.nodes_of.Given as goal

abbrev pub invariant-loop-master : goal.invariant-loop-master
invariant-loop-master l = l.addrs.items ≡ flat_map (λ master. master.nodes) (take l.master-index l.masters)
