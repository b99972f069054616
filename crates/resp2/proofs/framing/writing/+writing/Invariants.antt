use Rattle.std.proofs.Common.{◌≡◌, ◌++◌, take, map}
use Rattle.resp2.specs.Framing.Frame.{view, frames_of, spellings}
use Rattle.resp2.proofs.framing.writing.+writing.Given as goal

abbrev pub invariant-push_values-loop-item : goal.invariant-push_values-loop-item
invariant-push_values-loop-item g l = g.S.ByteSink.bytes l.sink ≡ g.S.ByteSink.bytes l.fn.sink ++ spellings (frames_of (map view (take l.item-index l.item-items)))
