use Rattle.std.proofs.Common.{◌≡◌, ◌<◌, ◌^◌, drop}
use Rattle.tokens.proofs.HexLemmas.{hex_tail}
use Rattle.tokens.proofs.run_ids.hex_of.Given as goal

abbrev pub invariant-loop-digit : goal.invariant-loop-digit
invariant-loop-digit l = record {
  rest : hex_tail 0 l.digits ≡ hex_tail l.number (drop l.digit-index l.digits);
  small : l.number < 16 ^ l.digit-index;
}
