use Rattle.std.proofs.Common.{rules, refl}
use Rattle.down_detector.proofs.reports.DownReports.report.Goals as goal

pub returns-clause-reported : goal.returns-clause-reported
returns-clause-reported c = search rules

pub returns-clause-kept : goal.returns-clause-kept
returns-clause-kept c = rw (← c.self.view_is, c.clock_of.ensures) refl
