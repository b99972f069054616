use Rattle.std.proofs.Common.{rules}
use Rattle.boxed_nodes.proofs.turn.Turn.take.Goals as goal

pub returns-else-not-fits-clause-is : goal.returns-else-not-fits-clause-is
returns-else-not-fits-clause-is c = search rules
