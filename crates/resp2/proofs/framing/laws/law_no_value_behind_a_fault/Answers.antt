use Rattle.resp2.proofs.FramingLemmas.Streams.{no_value_behind}
use Rattle.resp2.proofs.framing.laws.law_no_value_behind_a_fault.Goals as goal

pub returns : goal.returns
returns c = no_value_behind
