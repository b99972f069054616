use Rattle.std.proofs.Common.{length, refl}
use Rattle.courteous_sessions.proofs.Retold.{adds_sized}
use Rattle.courteous_sessions.proofs.retelling.push_header.Goals as goal

pub returns : goal.returns
returns c =
    adds_sized _ c.push_size.result c.args.out.now c.push_size.new.sink c.args.kind (length c.args.items.now) c.args.items.now refl c.push_size.ensures.added
