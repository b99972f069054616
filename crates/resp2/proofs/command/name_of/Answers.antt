use Rattle.ballot_law.specs.NameWords.{name_of_slice}
use Rattle.resp2.proofs.command.name_of.Goals as goal

pub returns : goal.returns
returns c = name_of_slice c.args.word.now c.from_slice.result c.from_slice.ensures.some c.from_slice.ensures.value
