use Rattle.process_laws.proofs.Connected.{connected_processes_are_safe}
use Rattle.process_laws.proofs.laws.law_connected_processes_are_safe.Goals as goal

pub returns : goal.returns
returns c = connected_processes_are_safe
