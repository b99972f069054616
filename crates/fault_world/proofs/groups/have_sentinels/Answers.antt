use Rattle.std.proofs.Common.{rules}
use Rattle.ballot_law.specs.declared.messages.NodeName.TheVariants.{SentinelAt}
use Rattle.ballot_law.specs.Rosters.{size}
use Rattle.fault_world.proofs.Loops.{named_more, all_named, not_named}
use Rattle.fault_world.proofs.groups.have_sentinels.Goals as goal

pub loop-place-preserved : goal.loop-place-preserved
loop-place-preserved g c =
    named_more c.args.nodes.now.items SentinelAt c.loop-place.place (λ b. (goal.Node-dyn g (b.vtable, b.value)).name b.value) (c.has_named.ensures.found c.if-not-has_named.false)
    c.loop-place.invariant

pub returns-clause-all : goal.returns-clause-all
returns-clause-all g c =
    λ _. all_named c.args.nodes.now.items SentinelAt c.loop-place.place (size c.args.roster.now) (search rules) (λ b. (goal.Node-dyn g (b.vtable, b.value)).name b.value)
    c.loop-place.invariant

pub returns-then-not-has_named-clause-other : goal.returns-then-not-has_named-clause-other
returns-then-not-has_named-clause-other g c =
    λ _. not_named c.args.nodes.now.items SentinelAt c.loop-place.place (size c.args.roster.now) (search rules) (λ b. (goal.Node-dyn g (b.vtable, b.value)).name b.value)
    (c.has_named.ensures.none c.if-not-has_named.true)
