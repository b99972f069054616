use Rattle.std.proofs.Common.{◌∙◌}
use Rattle.node_texts.proofs.Utf8Lemmas.{utf8_tells}
use Rattle.node_texts.proofs.encoding.is_utf8.Goals as goal

pub returns : goal.returns
returns c = c.is_ok.ensures.value ∙ utf8_tells c.args.bytes.now _ c.from_utf8.result c.from_utf8.ensures.cases
