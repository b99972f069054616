use Rattle.std.proofs.Common.{rules}
use Rattle.node_texts.proofs.infos.info_of_fields.Goals as goal

pub returns : goal.returns
returns c = search rules
