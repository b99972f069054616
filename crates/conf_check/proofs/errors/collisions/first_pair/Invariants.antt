use Rattle.std.proofs.Common.{◌≡◌, length}
use Rattle.conf_check.specs.Errors.Claims.{first_pair}
use Rattle.conf_check.proofs.errors.collisions.first_pair.Given as goal

abbrev pub invariant-loop-rest : goal.invariant-loop-rest
invariant-loop-rest l = first_pair l.kind l.claims ≡ first_pair l.kind l.rest

abbrev pub decreases-loop-rest : goal.decreases-loop-rest
decreases-loop-rest l = length l.rest
