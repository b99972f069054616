use Rattle.std.proofs.Common.{arith, rules}
use Rattle.down_detector.proofs.Cleared.{cleared_more}
use Rattle.down_detector.proofs.reports.clear_all.Goals as goal

pub loop-report-preserved : goal.loop-report-preserved
loop-report-preserved c =
    record {
      none = search rules;
      kept = grind (arith, cleared_more);
    }
