use Rattle.std.proofs.Common.{rules}
use Rattle.fault_world.proofs.scenarios.lines.stored.Goals as goal

pub returns-in-Some-clause-step : goal.returns-in-Some-clause-step
returns-in-Some-clause-step c = search rules
