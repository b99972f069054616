use Rattle.std.proofs.Common.{rules}
use Rattle.links.proofs.tick_schedule.TickSchedule.plan_tick.Goals as goal

pub returns-clause-due : goal.returns-clause-due
returns-clause-due c = search rules
