use Rattle.std.proofs.Common.{◌∙◌, ◌||◌, Bool, ap}
use Rattle.pubsub.specs.Globs.{is_listed}
use Rattle.pubsub.proofs.Listed.{goes_on, goes_on_after}
use Rattle.pubsub.proofs.globs.listed.Goals as goal

pub loop-first-preserved : goal.loop-first-preserved
loop-first-preserved c = record {
  has =
      c.loop-first.invariant.has
      ∙ ap (λ (t : Bool). t || is_listed c.loop-first.rest.now c.args.byte) c.if-found.false
      ∙ goes_on c.loop-first.rest.now c.in-Some.more.now c.first_listed-has.result.1.now c.in-Some.first.now c.args.byte c.first_listed-has.result.0
      c.in-Some.ensures.cases.0 c.if-first-eq93.false c.first_listed-has.ensures.has c.first_listed-has.ensures.rest;
  rest =
      c.loop-first.invariant.rest
      ∙ goes_on_after c.loop-first.rest.now c.in-Some.more.now c.first_listed-has.result.1.now c.in-Some.first.now
      c.in-Some.ensures.cases.0 c.if-first-eq93.false c.first_listed-has.ensures.rest;
}
