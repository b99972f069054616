use Rattle.std.proofs.Common.{◌≡◌, ◌++◌, length}
use Rattle.resp2.specs.Framing.Frame.{frames_view}
use Rattle.courteous_sessions.specs.Retelling.{map_spellings}
use Rattle.courteous_sessions.proofs.retelling.push_rows.Given as goal

abbrev pub invariant-loop-rest : goal.invariant-loop-rest
invariant-loop-rest l = l.fn.out ++ map_spellings (frames_view l.rows) ≡ l.out ++ map_spellings (frames_view l.rest)

abbrev pub decreases-loop-rest : goal.decreases-loop-rest
decreases-loop-rest l = length l.rest
