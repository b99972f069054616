use Rattle.std.proofs.Common.{◌≡◌, ◌++◌, length}
use Rattle.resp2.specs.Framing.Frame.{spellings}
use Rattle.client_commands.specs.Courtesies.{named_masters, cached}
use Rattle.client_commands.proofs.told_subcommands.add_each_cached.Given as goal

abbrev pub invariant-loop-rest : goal.invariant-loop-rest
invariant-loop-rest l = l.fn.out ++ spellings (cached (named_masters l.words l.masters)) ≡ l.out ++ spellings (cached (named_masters l.words l.rest))

abbrev pub decreases-loop-rest : goal.decreases-loop-rest
decreases-loop-rest l = length l.rest
