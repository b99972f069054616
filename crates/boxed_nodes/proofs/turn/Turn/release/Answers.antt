use Rattle.std.proofs.Common.{rules}
use Rattle.boxed_nodes.proofs.turn.Turn.release.Goals as goal

pub returns-in-Stored-clause-shown : goal.returns-in-Stored-clause-shown
returns-in-Stored-clause-shown c = search rules
