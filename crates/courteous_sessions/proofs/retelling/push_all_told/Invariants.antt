use Rattle.std.proofs.Common.{◌≡◌, ◌++◌, length}
use Rattle.resp2.specs.Framing.Frame.{frames_view}
use Rattle.courteous_sessions.specs.Retelling.{all_told_as}
use Rattle.courteous_sessions.proofs.retelling.push_all_told.Given as goal

abbrev pub invariant-loop-rest : goal.invariant-loop-rest
invariant-loop-rest l = l.fn.out ++ all_told_as l.shape (frames_view l.values) ≡ l.out ++ all_told_as l.shape (frames_view l.rest)

abbrev pub decreases-loop-rest : goal.decreases-loop-rest
decreases-loop-rest l = length l.rest
