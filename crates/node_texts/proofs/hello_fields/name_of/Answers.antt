use Rattle.ballot_law.specs.NameWords.{name_of_slice}
use Rattle.node_texts.proofs.hello_fields.name_of.Goals as goal

pub returns : goal.returns
returns c = name_of_slice c.args.bytes.now c.from_slice.result c.from_slice.ensures.some c.from_slice.ensures.value
