use Rattle.std.proofs.Common.{◌≡◌, length}
use Rattle.client_commands.specs.Choosing.{with_options}
use Rattle.client_commands.proofs.choosing.Wanted.take_options.Given as goal

abbrev pub invariant-loop-rest : goal.invariant-loop-rest
invariant-loop-rest l = record {
  same : with_options l.fn.self l.words ≡ with_options l.self l.rest;
  text : l.out ≡ l.fn.out;
}

abbrev pub decreases-loop-rest : goal.decreases-loop-rest
decreases-loop-rest l = length l.rest
