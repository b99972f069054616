use Rattle.std.proofs.Common.{◌≡◌, ◌≤◌, length}
use Rattle.tokens.specs.Quotes.{is_comment, words_at}
use Rattle.tokens.specs.Quotes.Mode.{Between}
use Rattle.tokens.proofs.quotes.after_spaces.Given as goal

abbrev pub invariant-loop-rest : goal.invariant-loop-rest
invariant-loop-rest l = record {
  comment : is_comment l.rest ≡ is_comment l.text;
  words : words_at l.text Between ≡ words_at l.rest Between;
  within : length l.rest ≤ length l.text;
}

abbrev pub decreases-loop-rest : goal.decreases-loop-rest
decreases-loop-rest l = length l.rest
