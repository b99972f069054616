use Rattle.std.proofs.Common.{rules}
use Rattle.boxed_nodes.proofs.turn.Turn.stop.Goals as goal

pub returns : goal.returns
returns c = search rules
