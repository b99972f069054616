use Rattle.std.proofs.Common.{◌≡◌, drop}
use Rattle.ballot_law.specs.Words.{number_within}
use Rattle.tokens.proofs.NumberLemmas.{tail_within}
use Rattle.tokens.proofs.numbers.number_of.Given as goal

abbrev pub invariant-loop-digit : goal.invariant-loop-digit
invariant-loop-digit l = number_within l.low l.high l.bytes ≡ tail_within l.low l.high l.number (drop l.digit-index l.bytes)
