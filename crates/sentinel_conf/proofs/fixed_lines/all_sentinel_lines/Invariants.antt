use Rattle.std.proofs.Common.{◌≡◌, ◌++◌, map, length}
use Rattle.sentinel_conf.specs.Fixed.{fixed_of}
use Rattle.sentinel_conf.specs.Room.{bounded}
use Rattle.sentinel_conf.proofs.fixed_lines.all_sentinel_lines.Given as goal

abbrev pub invariant-loop-rest : goal.invariant-loop-rest
invariant-loop-rest l = map (fixed_of l.id l.roster.sentinels) l.roster.masters ≡ map bounded l.list.items ++ map (fixed_of l.id l.roster.sentinels) l.rest

abbrev pub decreases-loop-rest : goal.decreases-loop-rest
decreases-loop-rest l = length l.rest
