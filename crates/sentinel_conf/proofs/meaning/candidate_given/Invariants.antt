use Rattle.std.proofs.Common.{◌≡◌, length}
use Rattle.sentinel_conf.specs.Meaning.{first_given}
use Rattle.conf_lines.specs.Values.{candidate_of}
use Rattle.sentinel_conf.proofs.meaning.candidate_given.Given as goal

abbrev pub invariant-loop-rest : goal.invariant-loop-rest
invariant-loop-rest l = first_given (candidate_of l.name) l.states ≡ first_given (candidate_of l.name) l.rest

abbrev pub decreases-loop-rest : goal.decreases-loop-rest
decreases-loop-rest l = length l.rest
