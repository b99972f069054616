use Rattle.std.proofs.Common.{◌≡◌, ◌++◌, map, take}
use Rattle.std.specs.List.{flat_map}
use Rattle.ballot_law.proofs.rosters.all_addresses.Given as goal

abbrev pub invariant-loop-member : goal.invariant-loop-member
invariant-loop-member l = l.all.items ≡ map (λ member. member.addr) (take l.member-index l.sentinels)

abbrev pub invariant-loop-master : goal.invariant-loop-master
invariant-loop-master l = l.all.items ≡ map (λ member. member.addr) l.fn.sentinels ++ flat_map (λ master. master.nodes) (take l.master-index l.masters)
