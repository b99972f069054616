use Rattle.std.proofs.Common.{◌≡◌, ◌-◌, ◌^◌, min, take, drop}
use Rattle.std.specs.Str.{all_ascii_digits}
use Rattle.ballot_law.specs.Words.{number_on}
use Rattle.resp2.proofs.framing.reading.digits_of.Given as goal

abbrev pub invariant-loop-digit : goal.invariant-loop-digit
invariant-loop-digit l = record {
  number : l.number ≡ min (number_on 0 (take l.digit-index l.line)) (2 ^ 64 - 1);
  digits : all_ascii_digits l.line ≡ all_ascii_digits (drop l.digit-index l.line);
}
