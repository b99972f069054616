use Rattle.resp2.proofs.FramingLemmas.Streams.{one_split}
use Rattle.resp2.proofs.framing.laws.law_one_split.Goals as goal

pub returns : goal.returns
returns c = one_split
