use Rattle.sentinel_rules.proofs.Ignoring.{ignored_changes_nothing}
use Rattle.sentinel_rules.proofs.laws.law_ignored_inputs_change_nothing.Goals as goal

pub returns : goal.returns
returns c = ignored_changes_nothing
