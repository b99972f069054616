use Rattle.fault_world.proofs.Searching.{PlacedBefore}
use Rattle.fault_world.proofs.groups.are_placed.Given as goal

abbrev pub invariant-loop-k : goal.invariant-loop-k
invariant-loop-k g l =
    PlacedBefore l.roster l.nodes.items l.k (λ b. (goal.Node-dyn g (b.vtable, b.value)).name b.value) (λ b. (goal.Node-dyn g (b.vtable, b.value)).shows b.value)
