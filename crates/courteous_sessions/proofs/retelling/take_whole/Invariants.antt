use Rattle.std.proofs.Common.{List, ℕ, map}
use Rattle.resp2.specs.Framing.Frame.{view}
use Rattle.resp2.specs.Framing.Stream.{SoFar, held_size}
use Rattle.courteous_sessions.proofs.retelling.take_whole.Given as goal

abbrev pub invariant-loop-value : goal.invariant-loop-value
invariant-loop-value l = (stream : List ℕ) → SoFar stream (map view l.fn.values.items) l.fn.frames → SoFar stream (map view l.values.items) l.frames

abbrev pub decreases-loop-value : goal.decreases-loop-value
decreases-loop-value l = held_size l.frames
