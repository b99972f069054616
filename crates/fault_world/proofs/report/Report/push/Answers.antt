use Rattle.std.proofs.Common.{rules}
use Rattle.fault_world.proofs.report.Report.push.Goals as goal

pub returns : goal.returns
returns c = search rules
