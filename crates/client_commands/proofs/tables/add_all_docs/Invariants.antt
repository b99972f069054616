use Rattle.std.proofs.Common.{◌≡◌, ◌++◌, length}
use Rattle.resp2.specs.Framing.Frame.{spellings}
use Rattle.client_commands.specs.Descriptions.{pairs_of}
use Rattle.client_commands.specs.Tables.{described}
use Rattle.client_commands.proofs.tables.add_all_docs.Given as goal

abbrev pub invariant-loop-rest : goal.invariant-loop-rest
invariant-loop-rest l = l.fn.out ++ spellings (pairs_of (described l.commands)) ≡ l.out ++ spellings (pairs_of (described l.rest))

abbrev pub decreases-loop-rest : goal.decreases-loop-rest
decreases-loop-rest l = length l.rest
