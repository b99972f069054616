use Rattle.std.proofs.Common.{rules}
use Rattle.links.proofs.schedule.Schedule.is_ping_due.Goals as goal

pub returns-then-eq : goal.returns-then-eq
returns-then-eq c = search rules
