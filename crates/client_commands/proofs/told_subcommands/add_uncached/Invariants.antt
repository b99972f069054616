use Rattle.std.proofs.Common.{◌≡◌, ◌++◌}
use Rattle.resp2.specs.Framing.Frame.{spellings}
use Rattle.client_commands.specs.Courtesies.{uncached}
use Rattle.client_commands.proofs.told_subcommands.add_uncached.Given as goal

abbrev pub invariant-loop-left : goal.invariant-loop-left
invariant-loop-left l = l.fn.out ++ spellings (uncached l.nodes) ≡ l.out ++ spellings (uncached l.left)

abbrev pub decreases-loop-left : goal.decreases-loop-left
decreases-loop-left l = l.left
