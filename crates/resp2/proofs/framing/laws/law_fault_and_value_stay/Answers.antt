use Rattle.resp2.proofs.FramingLemmas.Window.{frame_stays}
use Rattle.resp2.proofs.framing.laws.law_fault_and_value_stay.Goals as goal

pub returns : goal.returns
returns c = frame_stays
