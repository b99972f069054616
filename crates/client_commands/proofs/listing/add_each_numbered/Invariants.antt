use Rattle.std.proofs.Common.{◌≡◌, ◌++◌, length}
use Rattle.client_commands.specs.Courtesies.{numbered_lines}
use Rattle.client_commands.proofs.listing.add_each_numbered.Given as goal

abbrev pub invariant-loop-rest : goal.invariant-loop-rest
invariant-loop-rest l = l.fn.out ++ numbered_lines l.asker l.words ≡ l.out ++ numbered_lines l.asker l.rest

abbrev pub decreases-loop-rest : goal.decreases-loop-rest
decreases-loop-rest l = length l.rest
