use Rattle.process_laws.proofs.ListsOfAProcess.{lists_have_a_union}
use Rattle.process_laws.proofs.list_laws.law_lists_have_a_union.Goals as goal

pub returns : goal.returns
returns c = lists_have_a_union
