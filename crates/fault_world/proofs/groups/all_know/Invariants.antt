use Rattle.fault_world.proofs.Searching.{AllBefore}
use Rattle.fault_world.proofs.groups.all_know.Given as goal

abbrev pub invariant-loop-k : goal.invariant-loop-k
invariant-loop-k g l = AllBefore l.nodes.items l.k (λ b. (goal.Node-dyn g (b.vtable, b.value)).is_known b.value l.roster)
