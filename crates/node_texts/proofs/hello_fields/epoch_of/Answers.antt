use Rattle.std.proofs.Common.{rules}
use Rattle.node_texts.proofs.hello_fields.epoch_of.Goals as goal

pub returns-then-is_decimal : goal.returns-then-is_decimal
returns-then-is_decimal c = search rules
