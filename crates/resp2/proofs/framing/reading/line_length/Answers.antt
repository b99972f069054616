use Rattle.resp2.proofs.FramingLemmas.Lines.{line_length_is}
use Rattle.resp2.proofs.framing.reading.line_length.Goals as goal

pub returns : goal.returns
returns c = line_length_is c.args.bytes.now c.first_end.result c.first_end.ensures
