use Rattle.process_laws.proofs.TwoConnected.{connected_processes_happen}
use Rattle.process_laws.proofs.laws.law_connected_processes_happen.Goals as goal

pub returns : goal.returns
returns c = connected_processes_happen
