use Rattle.std.proofs.Common.{◌≡◌, ◌++◌, length}
use Rattle.sentinel_conf.specs.Rewritten.{text_of, sentinel_states}
use Rattle.sentinel_conf.specs.Room.{bounded}
use Rattle.sentinel_conf.proofs.writing.add_sentinels.Given as goal

abbrev pub invariant-loop-rest : goal.invariant-loop-rest
invariant-loop-rest l = bounded (l.fn.out ++ text_of (sentinel_states l.name l.id l.members)) ≡ bounded (l.out ++ text_of (sentinel_states l.name l.id l.rest))

abbrev pub decreases-loop-rest : goal.decreases-loop-rest
decreases-loop-rest l = length l.rest
