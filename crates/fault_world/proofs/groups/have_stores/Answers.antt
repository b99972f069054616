use Rattle.std.proofs.Common.{rules}
use Rattle.ballot_law.specs.declared.messages.NodeName.TheVariants.{StoreAt}
use Rattle.fault_world.proofs.Loops.{named_more, all_named, not_named}
use Rattle.fault_world.proofs.groups.have_stores.Goals as goal

pub loop-number-preserved : goal.loop-number-preserved
loop-number-preserved g c =
    named_more c.args.nodes.now.items StoreAt c.loop-number.number (λ b. (goal.Node-dyn g (b.vtable, b.value)).name b.value) (c.has_named.ensures.found c.if-not-has_named.false)
    c.loop-number.invariant

pub returns-clause-all : goal.returns-clause-all
returns-clause-all g c =
    λ _. all_named c.args.nodes.now.items StoreAt c.loop-number.number c.args.stores (search rules) (λ b. (goal.Node-dyn g (b.vtable, b.value)).name b.value)
    c.loop-number.invariant

pub returns-then-not-has_named-clause-other : goal.returns-then-not-has_named-clause-other
returns-then-not-has_named-clause-other g c =
    λ _. not_named c.args.nodes.now.items StoreAt c.loop-number.number c.args.stores (search rules) (λ b. (goal.Node-dyn g (b.vtable, b.value)).name b.value)
    (c.has_named.ensures.none c.if-not-has_named.true)
