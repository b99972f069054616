use Rattle.std.proofs.Common.{rules}
use Rattle.fault_world.proofs.Loops.{more, all_at_end, not_all}
use Rattle.fault_world.proofs.groups.all_know.Goals as goal

pub loop-k-preserved : goal.loop-k-preserved
loop-k-preserved g c =
    more c.args.nodes.now.items c.loop-k.k c.index.result.now (search rules) c.index.ensures _ (c.has_roster.ensures.0 c.if-not-has_roster.false) c.loop-k.invariant

pub returns-clause-known : goal.returns-clause-known
returns-clause-known g c =
    λ _. all_at_end c.args.nodes.now.items c.loop-k.k (search rules) _ c.loop-k.invariant

pub returns-then-not-has_roster-clause-other : goal.returns-then-not-has_roster-clause-other
returns-then-not-has_roster-clause-other g c =
    λ _. not_all c.args.nodes.now.items c.loop-k.k c.index.result.now (search rules) c.index.ensures (λ b. (goal.Node-dyn g (b.vtable, b.value)).is_known b.value c.args.roster.now)
    (λ known. (let f = c.has_roster.ensures.1 known in let h = c.if-not-has_roster.true in cc))
