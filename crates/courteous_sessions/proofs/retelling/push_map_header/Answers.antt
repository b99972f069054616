use Rattle.std.proofs.Common.{length, refl}
use Rattle.courteous_sessions.proofs.Retold.{adds_halved}
use Rattle.courteous_sessions.proofs.retelling.push_map_header.Goals as goal

pub returns : goal.returns
returns c = adds_halved _ c.push_size.result c.args.out.now c.push_size.new.sink (length c.args.items.now) c.args.items.now refl c.push_size.ensures.added
