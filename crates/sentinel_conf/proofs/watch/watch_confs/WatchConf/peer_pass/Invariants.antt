use Rattle.std.proofs.Common.{◌≡◌, length, []}
use Rattle.sentinel_conf.specs.Meaning.{last}
use Rattle.sentinel_conf.specs.Watch.WatchLines.{peer_pass_of}
use Rattle.sentinel_conf.proofs.watch.watch_confs.WatchConf.peer_pass.Given as goal

abbrev pub invariant-loop-rest : goal.invariant-loop-rest
invariant-loop-rest l = last peer_pass_of [] l.fn.self ≡ last peer_pass_of l.found l.rest

abbrev pub decreases-loop-rest : goal.decreases-loop-rest
decreases-loop-rest l = length l.rest
