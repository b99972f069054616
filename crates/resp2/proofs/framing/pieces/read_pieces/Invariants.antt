use Rattle.std.proofs.Common.{◌≡◌, List, ℕ, map, take, Err}
use Rattle.std.specs.List.{flat_map}
use Rattle.resp2.specs.declared.framing.fault.Unread.TheVariants.{NeedsMore}
use Rattle.resp2.specs.Framing.Frame.{view}
use Rattle.resp2.specs.Framing.Reading.{frame_at}
use Rattle.resp2.specs.Framing.Stream.{reading, Parts}
use Rattle.resp2.proofs.framing.pieces.read_pieces.Given as goal

abbrev pub invariant-loop-piece : goal.invariant-loop-piece
invariant-loop-piece l = (rest : List ℕ) × (l.frames ≡ reading rest) × Parts (flat_map (λ piece. piece.items) (take l.piece-index l.pieces)) (map view l.values.items) rest ×
    (frame_at rest ≡ Err NeedsMore)
