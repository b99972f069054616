use Rattle.resp2.proofs.FramingLemmas.Window.{waits_within}
use Rattle.resp2.proofs.framing.laws.law_waits_within_a_frame.Goals as goal

pub returns : goal.returns
returns c = waits_within
