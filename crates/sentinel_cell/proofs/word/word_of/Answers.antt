use Rattle.std.proofs.Common.{rules}
use Rattle.sentinel_cell.proofs.word.word_of.Goals as goal

pub returns : goal.returns
returns c = search rules
