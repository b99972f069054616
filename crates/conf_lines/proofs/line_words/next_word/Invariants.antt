use Rattle.std.proofs.Common.{◌≡◌, length}
use Rattle.conf_lines.specs.Words.{words_at}
use Rattle.conf_lines.specs.Words.Mode.{Between}
use Rattle.conf_lines.proofs.line_words.next_word.Given as goal

abbrev pub invariant-loop-rest : goal.invariant-loop-rest
invariant-loop-rest l = words_at l.rest Between ≡ words_at l.text Between

abbrev pub decreases-loop-rest : goal.decreases-loop-rest
decreases-loop-rest l = length l.rest
