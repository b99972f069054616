use Rattle.sentinel_rules.proofs.WorkedRows.{nothing_is_judged_in_tilt}
use Rattle.sentinel_rules.proofs.worked.law_example_tilt.Goals as goal

pub returns : goal.returns
returns c = nothing_is_judged_in_tilt
