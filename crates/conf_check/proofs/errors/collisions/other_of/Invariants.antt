use Rattle.std.proofs.Common.{◌≡◌, length}
use Rattle.conf_check.specs.Errors.Claims.{other_of}
use Rattle.conf_check.proofs.errors.collisions.other_of.Given as goal

abbrev pub invariant-loop-rest : goal.invariant-loop-rest
invariant-loop-rest l = other_of l.kind l.one l.others ≡ other_of l.kind l.one l.rest

abbrev pub decreases-loop-rest : goal.decreases-loop-rest
decreases-loop-rest l = length l.rest
