use Rattle.std.proofs.Common.{◌≡◌, length, map}
use Rattle.resp2.specs.Framing.Frame.{view}
use Rattle.links.specs.Sessions.Links.{number_in}
use Rattle.links.proofs.sessions.replies.number_in.Given as goal

-- no label was the name so far
abbrev pub invariant-loop-rest : goal.invariant-loop-rest
invariant-loop-rest l = number_in l.name (map view l.row) ≡ number_in l.name (map view l.rest)

abbrev pub decreases-loop-rest : goal.decreases-loop-rest
decreases-loop-rest l = length l.rest
