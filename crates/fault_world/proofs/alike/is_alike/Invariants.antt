use Rattle.fault_world.proofs.Searching.{AlikeBefore}
use Rattle.fault_world.proofs.alike.is_alike.Given as goal

abbrev pub invariant-loop-k : goal.invariant-loop-k
invariant-loop-k g l =
    AlikeBefore l.roster l.nodes.items l.place l.k (λ b. (goal.Node-dyn g (b.vtable, b.value)).name b.value) (λ b. (goal.Node-dyn g (b.vtable, b.value)).shows b.value)
