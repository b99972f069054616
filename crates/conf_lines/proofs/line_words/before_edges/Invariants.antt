use Rattle.std.proofs.Common.{◌≡◌, length}
use Rattle.conf_lines.specs.Words.{before_edges}
use Rattle.conf_lines.proofs.line_words.before_edges.Given as goal

abbrev pub invariant-loop-rest : goal.invariant-loop-rest
invariant-loop-rest l = before_edges l.rest ≡ before_edges l.text

abbrev pub decreases-loop-rest : goal.decreases-loop-rest
decreases-loop-rest l = length l.rest
