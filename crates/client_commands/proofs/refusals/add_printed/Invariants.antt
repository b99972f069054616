use Rattle.std.proofs.Common.{◌≡◌, ◌++◌, length, map}
use Rattle.client_commands.specs.Refusals.{printed_byte}
use Rattle.client_commands.proofs.refusals.add_printed.Given as goal

abbrev pub invariant-loop-rest : goal.invariant-loop-rest
invariant-loop-rest l = l.fn.out ++ map printed_byte l.bytes ≡ l.out ++ map printed_byte l.rest

abbrev pub decreases-loop-rest : goal.decreases-loop-rest
decreases-loop-rest l = length l.rest
