use Rattle.std.proofs.Common.{rules}
use Rattle.fault_world.proofs.scenarios.lines.done.Goals as goal

pub returns-clause-line : goal.returns-clause-line
returns-clause-line c = search rules
