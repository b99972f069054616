use Rattle.down_detector.proofs.Cleared.{kept_at-without}
use Rattle.down_detector.proofs.laws.law_reports_keep_the_last.Goals as goal

pub returns-clause-clearing : goal.returns-clause-clearing
returns-clause-clearing c = λ kept calls stands place. kept_at-without kept place
