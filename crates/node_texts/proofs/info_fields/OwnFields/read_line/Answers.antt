use Rattle.std.proofs.Common.{rules}
use Rattle.node_texts.proofs.info_fields.OwnFields.read_line.Goals as goal

pub returns-in-Some-after_label : goal.returns-in-Some-after_label
returns-in-Some-after_label c = search rules
