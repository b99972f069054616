use Rattle.ballot_law.proofs.RefusalsRun.{refusals_happen}
use Rattle.ballot_law.proofs.laws.law_refusals_happen.Goals as goal

pub returns : goal.returns
returns c = refusals_happen
