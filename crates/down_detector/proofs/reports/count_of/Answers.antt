use Rattle.std.proofs.Common.{rules}
use Rattle.down_detector.proofs.reports.count_of.Goals as goal

pub loop-report-preserved : goal.loop-report-preserved
loop-report-preserved c = search rules
