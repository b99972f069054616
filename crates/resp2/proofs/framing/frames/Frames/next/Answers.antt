use Rattle.resp2.proofs.FramingLemmas.Answered.{answers_found, answers_only}
use Rattle.resp2.proofs.framing.frames.Frames.next.Goals as goal

pub returns-clause-exact : goal.returns-clause-exact
returns-clause-exact c = c.take_first.ensures

pub returns-clause-found : goal.returns-clause-found
returns-clause-found c = answers_found _ _ _ c.take_first.ensures

pub returns-clause-only : goal.returns-clause-only
returns-clause-only c = λ f rest frame front. answers_only _ _ _ f rest c.take_first.ensures frame front
