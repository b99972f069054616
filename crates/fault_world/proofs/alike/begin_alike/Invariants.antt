use Rattle.fault_world.proofs.Searching.{MatchedBefore}
use Rattle.fault_world.proofs.alike.begin_alike.Given as goal

abbrev pub invariant-loop-place : goal.invariant-loop-place
invariant-loop-place g l =
    MatchedBefore l.roster l.nodes.items l.place (λ b. (goal.Node-dyn g (b.vtable, b.value)).name b.value) (λ b. (goal.Node-dyn g (b.vtable, b.value)).shows b.value)
