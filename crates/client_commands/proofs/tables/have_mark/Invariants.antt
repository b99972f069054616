use Rattle.std.proofs.Common.{◌≡◌, length}
use Rattle.std.specs.List.{list_any}
use Rattle.client_commands.specs.Pieces.{all_in}
use Rattle.client_commands.specs.Tables.{is_mark_of}
use Rattle.client_commands.proofs.tables.have_mark.Given as goal

abbrev pub invariant-loop-rest : goal.invariant-loop-rest
invariant-loop-rest l = list_any (is_mark_of l.word) (all_in l.pieces) ≡ list_any (is_mark_of l.word) (all_in l.rest)

abbrev pub decreases-loop-rest : goal.decreases-loop-rest
decreases-loop-rest l = length l.rest
