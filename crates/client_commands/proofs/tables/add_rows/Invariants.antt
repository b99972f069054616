use Rattle.std.proofs.Common.{◌≡◌, ◌++◌, length}
use Rattle.resp2.specs.Framing.Frame.{spellings}
use Rattle.client_commands.specs.Tables.{all_rows}
use Rattle.client_commands.proofs.tables.add_rows.Given as goal

abbrev pub invariant-loop-rest : goal.invariant-loop-rest
invariant-loop-rest l = l.fn.out ++ spellings (all_rows l.commands) ≡ l.out ++ spellings (all_rows l.rest)

abbrev pub decreases-loop-rest : goal.decreases-loop-rest
decreases-loop-rest l = length l.rest
