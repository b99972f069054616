use Rattle.std.proofs.Common.{rules, sym, ◌∙◌}
use Rattle.fault_world.proofs.Loops.{more, found, none_found}
use Rattle.fault_world.proofs.groups.has_named.Goals as goal

pub loop-k-preserved : goal.loop-k-preserved
loop-k-preserved g c =
    more c.args.nodes.now.items c.loop-k.k c.index.result.now (search rules) c.index.ensures _
    (λ e. (let f = c.is_same_name.ensures.1 (c.name_of.ensures.value ∙ e) in let h = c.if-is_same_name.false in cc)) c.loop-k.invariant

pub returns-then-is_same_name-clause-found : goal.returns-then-is_same_name-clause-found
returns-then-is_same_name-clause-found g c =
    λ _. found c.args.nodes.now.items c.loop-k.k c.index.result.now (search rules) c.index.ensures c.args.wanted (λ b. (goal.Node-dyn g (b.vtable, b.value)).name b.value)
    (sym c.name_of.ensures.value ∙ c.is_same_name.ensures.0 c.if-is_same_name.true)

pub returns-clause-none : goal.returns-clause-none
returns-clause-none g c =
    λ _. none_found c.args.nodes.now.items c.loop-k.k (search rules) c.args.wanted (λ b. (goal.Node-dyn g (b.vtable, b.value)).name b.value) c.loop-k.invariant
