use Rattle.std.proofs.Common.{refl}
use Rattle.sentinel_outbox.proofs.room.Room.of_sentinel.Goals as goal

pub returns : goal.returns
returns c = refl
