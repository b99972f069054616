use Rattle.std.proofs.Common.{rules}
use Rattle.boxed_nodes.proofs.turn.Turn.store.Goals as goal

pub returns-in-Pending : goal.returns-in-Pending
returns-in-Pending c = search rules
