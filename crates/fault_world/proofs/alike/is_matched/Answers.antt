use Rattle.std.proofs.Common.{rules, sym, subst}
use Rattle.fault_world.specs.Groups.{IsSentinelName}
use Rattle.fault_world.proofs.Loops.{is_matched, not_matched}
use Rattle.fault_world.proofs.alike.is_matched.Goals as goal

pub returns-clause-other : goal.returns-clause-other
returns-clause-other g c =
    λ f. not_matched c.args.nodes.now.items c.args.roster.now c.args.place c.index.result.now (search rules) c.index.ensures
    (λ b. (goal.Node-dyn g (b.vtable, b.value)).name b.value) (λ b. (goal.Node-dyn g (b.vtable, b.value)).shows b.value)
    (subst IsSentinelName c.name_of.ensures.value (c.is_sentinel.ensures.0 c.if-not-is_sentinel.false)) (c.is_alike.ensures.other f)

pub returns-then-not-is_sentinel-clause-matched : goal.returns-then-not-is_sentinel-clause-matched
returns-then-not-is_sentinel-clause-matched g c =
    λ _. is_matched c.args.nodes.now.items c.args.roster.now c.args.place c.index.result.now (search rules) c.index.ensures
    (λ b. (goal.Node-dyn g (b.vtable, b.value)).name b.value) (λ b. (goal.Node-dyn g (b.vtable, b.value)).shows b.value)
    (λ s. (let f = c.is_sentinel.ensures.1 (subst IsSentinelName (sym c.name_of.ensures.value) s) in let h = c.if-not-is_sentinel.true in cc))
