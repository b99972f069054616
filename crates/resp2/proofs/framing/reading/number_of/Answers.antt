use Rattle.std.proofs.Common.{rules}
use Rattle.resp2.specs.Framing.Reading.{number_of}
use Rattle.resp2.proofs.framing.reading.number_of.Goals as goal

pub returns : goal.returns
unfolding number_of
returns c = search rules
