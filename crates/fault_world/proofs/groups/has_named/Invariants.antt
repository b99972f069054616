use Rattle.fault_world.proofs.Searching.{NoneBefore}
use Rattle.fault_world.proofs.groups.has_named.Given as goal

abbrev pub invariant-loop-k : goal.invariant-loop-k
invariant-loop-k g l = NoneBefore l.nodes.items l.k l.wanted (λ b. (goal.Node-dyn g (b.vtable, b.value)).name b.value)
