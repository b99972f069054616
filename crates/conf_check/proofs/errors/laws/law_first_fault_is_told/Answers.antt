use Rattle.conf_check.proofs.ErrorsLemmas.FirstFaults.{first_is_told}
use Rattle.conf_check.proofs.errors.laws.law_first_fault_is_told.Goals as goal

pub returns : goal.returns
returns c = first_is_told
