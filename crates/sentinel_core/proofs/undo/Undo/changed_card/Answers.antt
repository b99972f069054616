use Rattle.std.proofs.Common.{rules}
use Rattle.sentinel_core.proofs.undo.Undo.changed_card.Goals as goal

pub returns-then-is_same_card-clause-others : goal.returns-then-is_same_card-clause-others
returns-then-is_same_card-clause-others c = search rules
