use Rattle.process_laws.proofs.Merging.{processes_are_a_run}
use Rattle.process_laws.proofs.laws.law_processes_are_a_run.Goals as goal

pub returns : goal.returns
returns c = processes_are_a_run
