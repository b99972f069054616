use Rattle.std.proofs.Common.{◌≡◌, ◌++◌, length, map}
use Rattle.ballot_law.specs.Words.{lower}
use Rattle.client_commands.specs.Refusals.{printed_byte}
use Rattle.client_commands.proofs.lookup.add_lower.Given as goal

abbrev pub invariant-loop-rest : goal.invariant-loop-rest
invariant-loop-rest l = l.fn.out ++ map printed_byte (lower l.word) ≡ l.out ++ map printed_byte (lower l.rest)

abbrev pub decreases-loop-rest : goal.decreases-loop-rest
decreases-loop-rest l = length l.rest
