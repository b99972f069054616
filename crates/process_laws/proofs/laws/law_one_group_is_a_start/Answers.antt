use Rattle.process_laws.proofs.GroupStarts.{one_group_is_a_start}
use Rattle.process_laws.proofs.laws.law_one_group_is_a_start.Goals as goal

pub returns : goal.returns
returns c = one_group_is_a_start
