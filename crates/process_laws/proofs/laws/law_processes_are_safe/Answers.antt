use Rattle.process_laws.proofs.Safety.{processes_are_safe}
use Rattle.process_laws.proofs.laws.law_processes_are_safe.Goals as goal

pub returns : goal.returns
returns c = processes_are_safe
