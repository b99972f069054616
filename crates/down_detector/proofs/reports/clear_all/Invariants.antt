use Rattle.std.proofs.Common.{◌≡◌, ℕ, ◌<◌, ◌++◌, None, take, drop}
use Rattle.ballot_law.specs.Reports.{kept_at, without_reports}
use Rattle.down_detector.proofs.reports.clear_all.Given as goal

abbrev pub invariant-loop-report : goal.invariant-loop-report
invariant-loop-report l =
    record {
      none : (place : ℕ) → place < l.report-index → kept_at l.reports place ≡ None;
      kept : l.reports ≡ without_reports (take l.report-index l.initial.reports) ++ drop l.report-index l.initial.reports;
    }
