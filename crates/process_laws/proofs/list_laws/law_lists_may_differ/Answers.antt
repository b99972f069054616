use Rattle.process_laws.proofs.TwoLists.{lists_may_differ}
use Rattle.process_laws.proofs.list_laws.law_lists_may_differ.Goals as goal

pub returns : goal.returns
returns c = lists_may_differ
