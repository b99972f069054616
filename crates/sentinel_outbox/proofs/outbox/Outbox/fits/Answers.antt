use Rattle.std.proofs.Common.{arith}
use Rattle.std.proofs.lemmas.Grind.{common_steps}
use Rattle.sentinel_outbox.proofs.outbox.Outbox.fits.Goals as goal

pub returns-then-room-text_room : goal.returns-then-room-text_room
returns-then-room-text_room c = grind (arith, common_steps)
