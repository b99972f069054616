use Rattle.std.proofs.Common.{rules, sym, subst}
use Rattle.boxed_nodes.specs.Moves.{ShowsKind}
use Rattle.fault_world.specs.Groups.{IsPlaced}
use Rattle.fault_world.proofs.Loops.{placed_more, all_at_end, not_all}
use Rattle.fault_world.proofs.groups.are_placed.Goals as goal

pub loop-k-preserved : goal.loop-k-preserved
loop-k-preserved g c =
    placed_more c.args.nodes.now.items c.args.roster.now c.loop-k.k c.index.result.now (search rules) c.index.ensures (λ b. (goal.Node-dyn g (b.vtable, b.value)).name b.value)
    (λ b. (goal.Node-dyn g (b.vtable, b.value)).shows b.value)
    (subst (IsPlaced c.args.roster.now) c.name_of.ensures.value (c.is_placed.ensures.0 c.if-not-is_placed.false)) c.name_of.ensures.kind c.loop-k.invariant

pub returns-clause-placed : goal.returns-clause-placed
returns-clause-placed g c =
    λ _. all_at_end c.args.nodes.now.items c.loop-k.k (search rules) (λ b. IsPlaced c.args.roster.now ((goal.Node-dyn g (b.vtable, b.value)).name b.value))
    c.loop-k.invariant.placed

pub returns-clause-kinds : goal.returns-clause-kinds
returns-clause-kinds g c =
    λ _. all_at_end c.args.nodes.now.items c.loop-k.k (search rules)
    (λ b. ShowsKind ((goal.Node-dyn g (b.vtable, b.value)).name b.value) ((goal.Node-dyn g (b.vtable, b.value)).shows b.value)) c.loop-k.invariant.kinds

pub returns-then-not-is_placed-clause-other : goal.returns-then-not-is_placed-clause-other
returns-then-not-is_placed-clause-other g c =
    λ _. not_all c.args.nodes.now.items c.loop-k.k c.index.result.now (search rules) c.index.ensures
    (λ b. IsPlaced c.args.roster.now ((goal.Node-dyn g (b.vtable, b.value)).name b.value))
    (λ placed. (let f = c.is_placed.ensures.1 (subst (IsPlaced c.args.roster.now) (sym c.name_of.ensures.value) placed) in let h = c.if-not-is_placed.true in cc))
