use Rattle.resp2.proofs.FramingLemmas.Streams.{read_is_spelled, spelled_is_read}
use Rattle.resp2.proofs.framing.laws.law_reading_is_spelling.Goals as goal

pub returns : goal.returns
returns c = λ bytes f rest. (read_is_spelled bytes f rest, spelled_is_read bytes f rest)
