use Rattle.process_laws.proofs.GroupStarts.{own_lists_are_a_start}
use Rattle.process_laws.proofs.list_laws.law_own_lists_are_a_start.Goals as goal

pub returns : goal.returns
returns c = own_lists_are_a_start
