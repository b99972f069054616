use Rattle.std.proofs.Common.{rules}
use Rattle.sentinel_core.proofs.undo.Undo.card.Goals as goal

pub returns-in-Some-clause-some : goal.returns-in-Some-clause-some
returns-in-Some-clause-some c = search rules
