use Rattle.ballot_law.specs.declared.messages.NodeName.TheVariants.{SentinelAt}
use Rattle.fault_world.proofs.Searching.{NamedBelow}
use Rattle.fault_world.proofs.groups.have_sentinels.Given as goal

abbrev pub invariant-loop-place : goal.invariant-loop-place
invariant-loop-place g l = NamedBelow l.nodes.items SentinelAt l.place (λ b. (goal.Node-dyn g (b.vtable, b.value)).name b.value)
