use Rattle.std.proofs.Common.{◌≡◌, ◌++◌, length, map}
use Rattle.resp2.specs.Framing.Frame.{bulk, frames_of, spellings}
use Rattle.client_commands.specs.Tables.{names_of}
use Rattle.client_commands.proofs.tables.add_names.Given as goal

abbrev pub invariant-loop-rest : goal.invariant-loop-rest
invariant-loop-rest l = l.fn.out ++ spellings (frames_of (map bulk (names_of l.commands))) ≡ l.out ++ spellings (frames_of (map bulk (names_of l.rest)))

abbrev pub decreases-loop-rest : goal.decreases-loop-rest
decreases-loop-rest l = length l.rest
