use Rattle.std.proofs.Common.{◌∙◌, List, ℕ, [], OnOk, map, sym}
use Rattle.resp2.specs.Framing.Frame.{view}
use Rattle.resp2.specs.Framing.Stream.{SoFar}
use Rattle.courteous_sessions.proofs.Retold.{all_read, none_held}
use Rattle.courteous_sessions.proofs.retelling.values_in.Goals as goal

pub returns : goal.returns
returns c =
    let given = rw c.new-frames.ensures at c.feed.ensures in
    let read : (stream : List ℕ) → SoFar stream [] c.feed.new.self → OnOk c.take_whole.result (SoFar stream (map view c.take_whole.new.values.items) c.take_whole.new.frames) =
    rw c.new-values.ensures.items at c.take_whole.ensures in
    all_read c.feed.result c.take_whole.result c.args.bytes.now c.feed.new.self c.take_whole.new.frames c.take_whole.new.values.items
    (sym c.is_err.ensures.value ∙ c.if-is_err.false) given read (sym c.is_err-2.ensures.value ∙ c.if-is_err-2.false)
    (sym c.held.ensures ∙ none_held c.held.result.now c.if-not-is_empty.ensures)
