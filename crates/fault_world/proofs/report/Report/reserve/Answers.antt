use Rattle.std.proofs.Common.{rules}
use Rattle.fault_world.proofs.report.Report.reserve.Goals as goal

pub returns-clause-ok : goal.returns-clause-ok
returns-clause-ok c = search rules
