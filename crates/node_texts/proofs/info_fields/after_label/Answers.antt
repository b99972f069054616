use Rattle.node_texts.proofs.LabelLemmas.{stripped}
use Rattle.node_texts.proofs.info_fields.after_label.Goals as goal

pub returns : goal.returns
returns c = stripped c.args.label.now c.args.line.now c.strip_prefix.result c.strip_prefix.ensures.cases
