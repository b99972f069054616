use Rattle.std.proofs.Common.{◌≡◌, ◌<◌, false, length}
use Rattle.std.specs.Prelude.{slice_index}
use Rattle.tokens.specs.Quotes.{is_space, words_at}
use Rattle.tokens.specs.Quotes.Mode.{Between}
use Rattle.tokens.specs.Quotes.{joined}
use Rattle.tokens.proofs.quotes.redis_words.Given as goal

abbrev pub invariant-loop-rest : goal.invariant-loop-rest
invariant-loop-rest l = record {
  words : words_at l.text Between ≡ joined l.words.items (words_at l.rest Between);
  first : 0 < length l.rest → is_space (slice_index l.rest 0) ≡ false;
}

abbrev pub decreases-loop-rest : goal.decreases-loop-rest
decreases-loop-rest l = length l.rest
