use Rattle.std.proofs.Common.{◌≡◌, length}
use Rattle.sentinel_conf.specs.Watch.WatchConfs.{other_hash_line}
use Rattle.sentinel_conf.proofs.watch.watch_confs.other_hash_line.Given as goal

abbrev pub invariant-loop-rest : goal.invariant-loop-rest
invariant-loop-rest l = other_hash_line l.hash l.settings l.numbers ≡ other_hash_line l.hash l.rest l.left

abbrev pub decreases-loop-rest : goal.decreases-loop-rest
decreases-loop-rest l = length l.rest
