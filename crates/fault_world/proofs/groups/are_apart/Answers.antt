use Rattle.std.proofs.Common.{rules}
use Rattle.fault_world.proofs.Loops.{first_more, are_apart, not_apart}
use Rattle.fault_world.proofs.groups.are_apart.Goals as goal

pub loop-place-preserved : goal.loop-place-preserved
loop-place-preserved g c =
    first_more c.args.nodes.now.items c.loop-place.place (λ b. (goal.Node-dyn g (b.vtable, b.value)).name b.value) (c.is_first_named.ensures.first c.if-not-is_first_named.false)
    c.loop-place.invariant

pub returns-clause-apart : goal.returns-clause-apart
returns-clause-apart g c =
    λ _. are_apart c.args.nodes.now.items c.loop-place.place (search rules) (λ b. (goal.Node-dyn g (b.vtable, b.value)).name b.value) c.loop-place.invariant

pub returns-then-not-is_first_named-clause-other : goal.returns-then-not-is_first_named-clause-other
returns-then-not-is_first_named-clause-other g c =
    λ _. not_apart c.args.nodes.now.items c.loop-place.place (λ b. (goal.Node-dyn g (b.vtable, b.value)).name b.value) (c.is_first_named.ensures.other c.if-not-is_first_named.true)
