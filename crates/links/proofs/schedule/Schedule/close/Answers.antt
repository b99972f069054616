use Rattle.std.proofs.Common.{rules}
use Rattle.links.proofs.schedule.Schedule.close.Goals as goal

pub returns : goal.returns
returns c = search rules
