use Rattle.std.proofs.Common.{◌≡◌, ◌++◌, length}
use Rattle.ballot_law.specs.Words.{lower}
use Rattle.client_commands.proofs.told_subcommands.lowered.Given as goal

abbrev pub invariant-loop-rest : goal.invariant-loop-rest
invariant-loop-rest l = lower l.word ≡ l.lowered.items ++ lower l.rest

abbrev pub decreases-loop-rest : goal.decreases-loop-rest
decreases-loop-rest l = length l.rest
