use Rattle.std.proofs.Common.{rules}
use Rattle.bounded_list.proofs.lists.BoundedList.from_vec.Goals as goal

pub returns : goal.returns
returns c = search rules
