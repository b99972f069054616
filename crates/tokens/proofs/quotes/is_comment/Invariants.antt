use Rattle.std.proofs.Common.{◌≡◌, length}
use Rattle.tokens.specs.Quotes.{is_comment}
use Rattle.tokens.proofs.quotes.is_comment.Given as goal

abbrev pub invariant-loop-rest : goal.invariant-loop-rest
invariant-loop-rest l = is_comment l.rest ≡ is_comment l.text

abbrev pub decreases-loop-rest : goal.decreases-loop-rest
decreases-loop-rest l = length l.rest
