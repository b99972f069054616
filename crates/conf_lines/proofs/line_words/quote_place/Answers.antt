use Rattle.std.proofs.Common.{◌≡◌, ℕ, true, List, length, Option, Some, None, rules}
use Rattle.std.specs.Prelude.{slice_index}
use Rattle.std.specs.Option.{unwrap_or}
use Rattle.memchr.specs.Find.{IsFirst}
use Rattle.ballot_law.specs.Cuts.{IsEnd}
use Rattle.conf_lines.specs.Words.{is_quote}
use Rattle.conf_lines.proofs.line_words.quote_place.Goals as goal

-- the first quote of a text, or its length, is where a quoted word ends
first_quote : (text : List ℕ) (found : Option ℕ) → IsFirst (λ k. is_quote (slice_index text k) ≡ true) 0 (length text) found → IsEnd is_quote text (unwrap_or found (length text))
first_quote text (Some k) first = search rules
first_quote text None nowhere = search rules

pub returns : goal.returns
returns c = rw c.unwrap_or.ensures (first_quote c.args.text.now c.memchr.result c.memchr.ensures)
