use Rattle.ballot_law.specs.declared.messages.NodeName.TheVariants.{StoreAt}
use Rattle.fault_world.proofs.Searching.{NamedBelow}
use Rattle.fault_world.proofs.groups.have_stores.Given as goal

abbrev pub invariant-loop-number : goal.invariant-loop-number
invariant-loop-number g l = NamedBelow l.nodes.items StoreAt l.number (λ b. (goal.Node-dyn g (b.vtable, b.value)).name b.value)
