use Rattle.std.proofs.Common.{◌≡◌, length, []}
use Rattle.sentinel_conf.specs.Meaning.{last}
use Rattle.sentinel_conf.specs.Watch.WatchLines.{own_pass_of}
use Rattle.sentinel_conf.proofs.watch.watch_confs.WatchConf.own_pass.Given as goal

abbrev pub invariant-loop-rest : goal.invariant-loop-rest
invariant-loop-rest l = last own_pass_of [] l.fn.self ≡ last own_pass_of l.found l.rest

abbrev pub decreases-loop-rest : goal.decreases-loop-rest
decreases-loop-rest l = length l.rest
