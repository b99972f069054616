use Rattle.std.proofs.Common.{rules}
use Rattle.sentinel_outbox.proofs.outbox.Outbox.hold.Goals as goal

pub returns-then-len-capacity-clause-held : goal.returns-then-len-capacity-clause-held
returns-then-len-capacity-clause-held c = search rules

pub returns-then-len-capacity-clause-room : goal.returns-then-len-capacity-clause-room
returns-then-len-capacity-clause-room c = search rules
