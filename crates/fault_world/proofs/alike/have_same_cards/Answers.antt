use Rattle.std.proofs.Common.{rules}
use Rattle.fault_world.proofs.Loops.{same_more, same_cards, not_same}
use Rattle.fault_world.proofs.alike.have_same_cards.Goals as goal

pub loop-m-preserved : goal.loop-m-preserved
loop-m-preserved g c =
    same_more c.args.roster.now c.loop-m.m c.card_of.result c.card_of-in-loop-m.result ((goal.Node-dyn g (c.args.one.now.vtable, c.args.one.now.value)).shows c.args.one.now.value)
    ((goal.Node-dyn g (c.args.other.now.vtable, c.args.other.now.value)).shows c.args.other.now.value) c.card_of.ensures c.card_of-in-loop-m.ensures
    (c.is_same_card.ensures.0 c.if-not-is_same_card.false) c.loop-m.invariant

pub returns-clause-same : goal.returns-clause-same
returns-clause-same g c =
    λ _. same_cards c.args.roster.now c.loop-m.m (((goal.Node-dyn g (c.args.one.now.vtable, c.args.one.now.value)).shows c.args.one.now.value) c.args.roster.now)
    (((goal.Node-dyn g (c.args.other.now.vtable, c.args.other.now.value)).shows c.args.other.now.value) c.args.roster.now) (search rules) c.loop-m.invariant

pub returns-then-not-is_same_card-clause-other : goal.returns-then-not-is_same_card-clause-other
returns-then-not-is_same_card-clause-other g c =
    λ _. not_same c.args.roster.now c.loop-m.m c.card_of.result c.card_of-in-loop-m.result
    ((goal.Node-dyn g (c.args.one.now.vtable, c.args.one.now.value)).shows c.args.one.now.value)
    ((goal.Node-dyn g (c.args.other.now.vtable, c.args.other.now.value)).shows c.args.other.now.value)
    ((goal.Node-dyn g (c.args.one.now.vtable, c.args.one.now.value)).is_known c.args.one.now.value)
    ((goal.Node-dyn g (c.args.other.now.vtable, c.args.other.now.value)).is_known c.args.other.now.value) (search rules) c.card_of.ensures c.card_of-in-loop-m.ensures
    (λ e. (let f = c.is_same_card.ensures.1 e in let h = c.if-not-is_same_card.true in cc)) c.requires.one c.requires.other c.requires.one_knows c.requires.other_knows
