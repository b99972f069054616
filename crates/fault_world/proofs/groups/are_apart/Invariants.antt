use Rattle.fault_world.proofs.Searching.{FirstBefore}
use Rattle.fault_world.proofs.groups.are_apart.Given as goal

abbrev pub invariant-loop-place : goal.invariant-loop-place
invariant-loop-place g l = FirstBefore l.nodes.items l.place (λ b. (goal.Node-dyn g (b.vtable, b.value)).name b.value)
