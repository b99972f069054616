use Rattle.std.proofs.Common.{◌≡◌, ◌++◌, length}
use Rattle.client_commands.specs.Pieces.{all_in, all_bytes_of}
use Rattle.client_commands.proofs.pieces.add_pieces.Given as goal

abbrev pub invariant-loop-rest : goal.invariant-loop-rest
invariant-loop-rest l = l.fn.out ++ all_bytes_of (all_in l.pieces) ≡ l.out ++ all_bytes_of (all_in l.rest)

abbrev pub decreases-loop-rest : goal.decreases-loop-rest
decreases-loop-rest l = length l.rest
