use Rattle.std.proofs.Common.{◌+◌, [], map, take, refl, inl, inr, arith}
use Rattle.std.specs.List.{flat_map}
use Rattle.std.proofs.lemmas.Result.{err_from_is_err_and}
use Rattle.resp2.specs.Framing.Frame.{view}
use Rattle.resp2.proofs.FramingLemmas.Drains.{nothing_waits, piece_fed, bytes_of, fault_of_all}
use Rattle.resp2.proofs.framing.pieces.read_pieces.Goals as goal

pub loop-piece-init : goal.loop-piece-init
loop-piece-init c = ([], c.new-frames.ensures, rw c.new-values.ensures.items (refl, tt), nothing_waits)

pub returns-in_err-take_whole-clause-fault : goal.returns-in_err-take_whole-clause-fault
returns-in_err-take_whole-clause-fault c =
    let pieces = c.args.pieces.now in
    let i = c.loop-piece.piece-index in
    let w = c.loop-piece.invariant in
    let fed = piece_fed pieces i c.piece-item.result c.as_slice.result.now (map view c.loop-piece.values.items) c.loop-piece.frames c.feed.new.self c.in_ok-feed.field-0
    (omega arith) c.piece-item.is c.as_slice.ensures.value (w.0, w.1, w.2) c.in_ok-feed.ensures in
    let after = map view c.take_whole.new.values.items in
    let p = err_from_is_err_and c.from_residual-in_err-take_whole.result c.from_residual-in_err-take_whole.ensures.1 in
    rw (p.1, p.2) (elim (c.in_err-take_whole.ensures (flat_map bytes_of (take (i + 1) pieces)) fed) [
      | inl none ↦ inl none
      | inr shows ↦ inr (after, fault_of_all pieces (i + 1) after c.in_err-take_whole.field-0.0 shows)
    ])

pub loop-piece-preserved : goal.loop-piece-preserved
loop-piece-preserved c =
    let pieces = c.args.pieces.now in
    let i = c.loop-piece.piece-index in
    let w = c.loop-piece.invariant in
    c.in_ok-take_whole.ensures (flat_map bytes_of (take (i + 1) pieces))
    (piece_fed pieces i c.piece-item.result c.as_slice.result.now (map view c.loop-piece.values.items) c.loop-piece.frames c.feed.new.self c.in_ok-feed.field-0
    (omega arith) c.piece-item.is c.as_slice.ensures.value (w.0, w.1, w.2) c.in_ok-feed.ensures)
