use Rattle.process_laws.proofs.Differing.{own_lists_are_a_run}
use Rattle.process_laws.proofs.list_laws.law_own_lists_are_a_run.Goals as goal

pub returns : goal.returns
returns c = own_lists_are_a_run
