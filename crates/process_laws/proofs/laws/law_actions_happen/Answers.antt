use Rattle.process_laws.proofs.TwoProcesses.{actions_happen}
use Rattle.process_laws.proofs.laws.law_actions_happen.Goals as goal

pub returns : goal.returns
returns c = actions_happen
