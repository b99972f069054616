use Rattle.process_laws.proofs.Numbers.{numbers_fit}
use Rattle.process_laws.proofs.list_laws.law_numbers_fit.Goals as goal

pub returns : goal.returns
returns c = numbers_fit
