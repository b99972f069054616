use Rattle.std.proofs.Common.{rules}
use Rattle.sentinel_core.proofs.undo.Undo.begin.Goals as goal

pub returns : goal.returns
returns c = search rules
