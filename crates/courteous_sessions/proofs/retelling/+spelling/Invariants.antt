use Rattle.std.proofs.Common.{◌≡◌, ◌++◌, take, map}
use Rattle.resp2.specs.Framing.Frame.{view, frames_of}
use Rattle.courteous_sessions.specs.Retelling.{spellings3}
use Rattle.courteous_sessions.proofs.retelling.+spelling.Given as goal

abbrev pub invariant-push_values-loop-item : goal.invariant-push_values-loop-item
invariant-push_values-loop-item l = l.out ≡ l.fn.out ++ spellings3 (frames_of (map view (take l.item-index l.item-items)))
