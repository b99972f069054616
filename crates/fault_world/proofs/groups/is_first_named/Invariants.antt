use Rattle.fault_world.proofs.Searching.{NoneBefore}
use Rattle.fault_world.proofs.groups.is_first_named.Given as goal

abbrev pub invariant-loop-j : goal.invariant-loop-j
invariant-loop-j g l = NoneBefore l.nodes.items l.j l.name (λ b. (goal.Node-dyn g (b.vtable, b.value)).name b.value)
