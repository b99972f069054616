use Rattle.std.proofs.Common.{sym, subst}
use Rattle.ballot_law.specs.declared.messages.NodeName.TheVariants.{StoreAt}
use Rattle.fault_world.specs.Groups.{HasAllBelow}
use Rattle.fault_world.proofs.groups.is_group_of.Goals as goal

pub returns-then-have_sentinels-clause-other : goal.returns-then-have_sentinels-clause-other
returns-then-have_sentinels-clause-other g c =
    λ f group. c.have_stores.ensures.other f (subst (HasAllBelow (λ b. (goal.Node-dyn g (b.vtable, b.value)).name b.value) c.args.nodes.now.items StoreAt)
    (sym c.node_count-stores.ensures.value) group.stores)
