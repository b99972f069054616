use Rattle.std.proofs.Common.{◌≡◌, ◌++◌, [], length}
use Rattle.data_node_port.specs.Readings.{inline_words}
use Rattle.data_node_port.proofs.readings.inline_words.Given as goal

abbrev pub invariant-loop-rest : goal.invariant-loop-rest
invariant-loop-rest l = l.words.items ++ inline_words l.word.items l.rest ≡ inline_words [] l.line

abbrev pub decreases-loop-rest : goal.decreases-loop-rest
decreases-loop-rest l = length l.rest
