use Rattle.std.proofs.Common.{◌≡◌, length, []}
use Rattle.sentinel_conf.specs.Meaning.{last}
use Rattle.sentinel_conf.specs.Watch.WatchLines.{peer_user_of}
use Rattle.sentinel_conf.proofs.watch.watch_confs.WatchConf.peer_user.Given as goal

abbrev pub invariant-loop-rest : goal.invariant-loop-rest
invariant-loop-rest l = last peer_user_of [] l.fn.self ≡ last peer_user_of l.found l.rest

abbrev pub decreases-loop-rest : goal.decreases-loop-rest
decreases-loop-rest l = length l.rest
