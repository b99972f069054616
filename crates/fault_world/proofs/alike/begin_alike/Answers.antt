use Rattle.std.proofs.Common.{rules}
use Rattle.fault_world.proofs.Loops.{matched_more, begin_alike, not_begun}
use Rattle.fault_world.proofs.alike.begin_alike.Goals as goal

pub loop-place-preserved : goal.loop-place-preserved
loop-place-preserved g c =
    matched_more c.args.nodes.now.items c.args.roster.now c.loop-place.place (λ b. (goal.Node-dyn g (b.vtable, b.value)).name b.value)
    (λ b. (goal.Node-dyn g (b.vtable, b.value)).shows b.value) (c.is_matched.ensures.matched c.if-not-is_matched.false) c.loop-place.invariant

pub returns-clause-alike : goal.returns-clause-alike
returns-clause-alike g c =
    λ _. begin_alike c.args.nodes.now.items c.args.roster.now c.loop-place.place (search rules) (λ b. (goal.Node-dyn g (b.vtable, b.value)).name b.value)
    (λ b. (goal.Node-dyn g (b.vtable, b.value)).shows b.value) c.loop-place.invariant

pub returns-then-not-is_matched-clause-other : goal.returns-then-not-is_matched-clause-other
returns-then-not-is_matched-clause-other g c =
    λ _. not_begun c.args.nodes.now.items c.args.roster.now c.loop-place.place (λ b. (goal.Node-dyn g (b.vtable, b.value)).name b.value)
    (λ b. (goal.Node-dyn g (b.vtable, b.value)).shows b.value) (c.is_matched.ensures.other c.if-not-is_matched.true)
