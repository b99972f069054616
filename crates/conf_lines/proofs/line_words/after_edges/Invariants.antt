use Rattle.std.proofs.Common.{◌≡◌, length}
use Rattle.conf_lines.specs.Words.{after_edges}
use Rattle.conf_lines.proofs.line_words.after_edges.Given as goal

abbrev pub invariant-loop-rest : goal.invariant-loop-rest
invariant-loop-rest l = after_edges l.rest ≡ after_edges l.text

abbrev pub decreases-loop-rest : goal.decreases-loop-rest
decreases-loop-rest l = length l.rest
