use Rattle.std.proofs.Common.{◌≡◌, map, take}
use Rattle.boxed_nodes.proofs.clients.group.addrs_of.Given as goal

abbrev pub invariant-loop-member : goal.invariant-loop-member
invariant-loop-member l = l.addrs.items ≡ map (λ member. member.addr) (take l.member-index l.members)
