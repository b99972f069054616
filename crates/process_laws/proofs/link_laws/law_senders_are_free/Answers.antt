use Rattle.std.proofs.Common.{refl}
use Rattle.ballot_law.specs.Clocks.{clock}
use Rattle.sentinel_rules.specs.Answers.{commanded}
use Rattle.sentinel_rules.specs.Takes.{cleared}
use Rattle.process_laws.proofs.link_laws.law_senders_are_free.Goals as goal

pub returns : goal.returns
returns c = λ plan core now command one other. (refl, ((commanded plan (clock now) command (cleared core)).body, refl, refl))
