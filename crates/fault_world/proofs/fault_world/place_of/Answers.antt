use Rattle.std.proofs.Common.{rules}
use Rattle.fault_world.proofs.Lists.{found_at, none_before}
use Rattle.fault_world.proofs.fault_world.place_of.Goals as goal

pub returns-then-has_name-clause-some : goal.returns-then-has_name-clause-some
returns-then-has_name-clause-some g c = found_at c.args.members.now.items c.loop-k.k c.index.result.now c.index.result.now (search rules) c.index.ensures _
    (c.has_name.ensures.0 c.if-has_name.true)

pub loop-k-preserved : goal.loop-k-preserved
loop-k-preserved g c = none_before c.args.members.now.items c.loop-k.k c.index.result.now c.index.result.now (search rules) c.index.ensures _ c.loop-k.invariant
    (λ e. (let f = c.has_name.ensures.1 e in let h = c.if-has_name.false in cc))
