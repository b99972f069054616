use Rattle.std.proofs.Common.{◌≡◌, ◌++◌, take, map}
use Rattle.resp2.specs.Framing.Frame.{view, frames_of}
use Rattle.courteous_sessions.specs.Nested.{spellings_in}
use Rattle.courteous_sessions.proofs.nested.+telling.Given as goal

abbrev pub invariant-push_values_in-loop-item : goal.invariant-push_values_in-loop-item
invariant-push_values_in-loop-item l = l.out ≡ l.fn.out ++ spellings_in l.manner (frames_of (map view (take l.item-index l.item-items)))
