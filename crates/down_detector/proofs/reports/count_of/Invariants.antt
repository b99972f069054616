use Rattle.std.proofs.Common.{◌≡◌, ◌≤◌}
use Rattle.ballot_law.specs.Reports.{down_count, kept_at}
use Rattle.down_detector.proofs.reports.count_of.Given as goal

abbrev pub invariant-loop-report : goal.invariant-loop-report
invariant-loop-report l =
    record {
      few : l.count ≤ l.report-index;
      counted : l.count ≡ down_count l.now (kept_at l.reports) l.report-index;
    }
