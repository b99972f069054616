use Rattle.std.proofs.Common.{◌≡◌, ◌≤◌, length}
use Rattle.tokens.specs.Quotes.{mode_in, bytes_first, words_at}
use Rattle.tokens.specs.Quotes.Mode.{Plain}
use Rattle.tokens.proofs.quotes.word_and_rest.Given as goal

abbrev pub invariant-loop-rest : goal.invariant-loop-rest
invariant-loop-rest l = record {
  words : words_at l.text Plain ≡ bytes_first l.word.items (words_at l.rest (mode_in l.within));
  within : length l.rest ≤ length l.text;
}

abbrev pub decreases-loop-rest : goal.decreases-loop-rest
decreases-loop-rest l = length l.rest
