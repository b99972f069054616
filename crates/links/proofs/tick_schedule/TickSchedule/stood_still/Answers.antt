use Rattle.std.proofs.Common.{rules}
use Rattle.links.proofs.tick_schedule.TickSchedule.stood_still.Goals as goal

pub returns : goal.returns
returns c = search rules
