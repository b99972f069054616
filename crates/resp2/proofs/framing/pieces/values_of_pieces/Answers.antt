use Rattle.std.specs.List.{flat_map}
use Rattle.resp2.proofs.FramingLemmas.Drains.{bytes_of, only_these}
use Rattle.resp2.proofs.framing.pieces.values_of_pieces.Goals as goal

pub returns-clause-only : goal.returns-clause-only
returns-clause-only c = only_these (flat_map bytes_of c.args.pieces.now) c.read_pieces.result c.read_pieces.ensures.ok
