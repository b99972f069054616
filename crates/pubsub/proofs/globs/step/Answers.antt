use Rattle.std.proofs.Common.{◌∙◌, sym}
use Rattle.pubsub.proofs.Fitting.{stepped_at}
use Rattle.pubsub.proofs.globs.step.Goals as goal

pub returns-then-takes-clause-stepped : goal.returns-then-takes-clause-stepped
returns-then-takes-clause-stepped c =
    stepped_at c.args.pattern.now c.args.text.now c.first_item-takes.result.1.now c.in-Some.later.now c.in-Some.byte.now
    c.in-Some.ensures.cases.0
    (sym c.is_open.ensures ∙ c.if-is_open.false)
    (sym c.first_item-takes.ensures.takes ∙ c.if-takes.true)
    c.first_item-takes.ensures.rest
