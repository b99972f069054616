use Rattle.std.proofs.Common.{ap, sym, ◌∙◌}
use Rattle.node_texts.specs.Lines.{without_return}
use Rattle.node_texts.proofs.LineLemmas.{return_dropped, other_kept}
use Rattle.node_texts.proofs.lines.without_return.Goals as goal

pub returns-then-last-eq13 : goal.returns-then-last-eq13
returns-then-last-eq13 c = sym (ap without_return c.in-Some.ensures.cases.0 ∙ return_dropped c.in-Some.front.now c.in-Some.last.now c.if-last-eq13.true)

pub returns-else-last-eq13 : goal.returns-else-last-eq13
returns-else-last-eq13 c =
    c.in-Some.ensures.cases.0 ∙ sym (ap without_return c.in-Some.ensures.cases.0 ∙ other_kept c.in-Some.front.now c.in-Some.last.now c.if-last-eq13.false)
