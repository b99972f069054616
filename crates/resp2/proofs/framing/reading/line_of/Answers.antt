use Rattle.resp2.proofs.FramingLemmas.Lines.{line_length_le}
use Rattle.resp2.proofs.framing.reading.line_of.Goals as goal

pub split_at-requires : goal.split_at-requires
split_at-requires c = rw c.line_length.ensures (line_length_le c.args.bytes.now)
