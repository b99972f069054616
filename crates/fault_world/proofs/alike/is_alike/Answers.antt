use Rattle.std.proofs.Common.{rules}
use Rattle.fault_world.proofs.Loops.{alike_more, is_alike, not_alike}
use Rattle.fault_world.proofs.alike.is_alike.Goals as goal

pub loop-k-preserved : goal.loop-k-preserved
loop-k-preserved g c =
    alike_more c.args.nodes.now.items c.args.roster.now c.args.place c.loop-k.k c.index-one.result.now c.index.result.now (search rules) c.index-one.ensures (search rules)
    c.index.ensures (λ b. (goal.Node-dyn g (b.vtable, b.value)).name b.value) (λ b. (goal.Node-dyn g (b.vtable, b.value)).shows b.value)
    (c.agrees.ensures.agrees c.if-not-agrees.false) c.loop-k.invariant

pub returns-clause-alike : goal.returns-clause-alike
returns-clause-alike g c =
    λ _. is_alike c.args.nodes.now.items c.args.roster.now c.args.place c.loop-k.k (search rules) (λ b. (goal.Node-dyn g (b.vtable, b.value)).name b.value)
    (λ b. (goal.Node-dyn g (b.vtable, b.value)).shows b.value) c.loop-k.invariant

pub returns-then-not-agrees-clause-other : goal.returns-then-not-agrees-clause-other
returns-then-not-agrees-clause-other g c =
    λ _. not_alike c.args.nodes.now.items c.args.roster.now c.args.place c.loop-k.k c.index-one.result.now c.index.result.now (search rules) c.index-one.ensures (search rules)
    c.index.ensures (λ b. (goal.Node-dyn g (b.vtable, b.value)).name b.value) (λ b. (goal.Node-dyn g (b.vtable, b.value)).shows b.value)
    (c.agrees.ensures.other c.if-not-agrees.true)
