use Rattle.std.proofs.Common.{◌≡◌, ◌++◌, map, length}
use Rattle.sentinel_conf.specs.Meaning.{master_of}
use Rattle.sentinel_conf.proofs.meaning.masters_of.Given as goal

abbrev pub invariant-loop-rest : goal.invariant-loop-rest
invariant-loop-rest l = map (master_of l.states) l.names ≡ l.masters.items ++ map (master_of l.states) l.rest

abbrev pub decreases-loop-rest : goal.decreases-loop-rest
decreases-loop-rest l = length l.rest
