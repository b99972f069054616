use Rattle.std.proofs.Common.{rules, sym, ◌∙◌, arith}
use Rattle.fault_world.proofs.Loops.{more, not_first, is_first}
use Rattle.fault_world.proofs.groups.is_first_named.Goals as goal

pub loop-j-init : goal.loop-j-init
loop-j-init g c = λ j y before e. absurd (omega (arith, before))

pub loop-j-preserved : goal.loop-j-preserved
loop-j-preserved g c =
    more c.args.nodes.now.items c.loop-j.j c.index-in-loop-j.result.now (search rules) c.index-in-loop-j.ensures _
    (λ e. (let f = c.is_same_name.ensures.1 (c.name_of.ensures.value ∙ e) in let h = c.if-is_same_name.false in cc)) c.loop-j.invariant

pub returns-then-is_same_name-clause-other : goal.returns-then-is_same_name-clause-other
returns-then-is_same_name-clause-other g c =
    λ _. not_first c.args.nodes.now.items c.loop-j.j c.args.place c.index-in-loop-j.result.now c.index.result.now c.loop-j-test.true (search rules) c.index-in-loop-j.ensures
    (search rules) c.index.ensures (λ b. (goal.Node-dyn g (b.vtable, b.value)).name b.value)
    (sym c.name_of.ensures.value ∙ c.is_same_name.ensures.0 c.if-is_same_name.true ∙ c.name_of-name.ensures.value)

pub returns-clause-first : goal.returns-clause-first
returns-clause-first g c =
    λ _. is_first c.args.nodes.now.items c.loop-j.j c.args.place c.index.result.now (search rules) (search rules) c.index.ensures c.name_of-name.result
    (λ b. (goal.Node-dyn g (b.vtable, b.value)).name b.value) c.name_of-name.ensures.value c.loop-j.invariant
