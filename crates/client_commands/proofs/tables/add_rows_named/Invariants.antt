use Rattle.std.proofs.Common.{◌≡◌, ◌++◌, length}
use Rattle.resp2.specs.Framing.Frame.{spellings}
use Rattle.client_commands.specs.Tables.{rows_named}
use Rattle.client_commands.proofs.tables.add_rows_named.Given as goal

abbrev pub invariant-loop-rest : goal.invariant-loop-rest
invariant-loop-rest l = l.fn.out ++ spellings (rows_named l.words) ≡ l.out ++ spellings (rows_named l.rest)

abbrev pub decreases-loop-rest : goal.decreases-loop-rest
decreases-loop-rest l = length l.rest
