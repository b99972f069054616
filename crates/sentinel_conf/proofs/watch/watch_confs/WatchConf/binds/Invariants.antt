use Rattle.std.proofs.Common.{◌≡◌, length, [], ◌∷◌}
use Rattle.sentinel_conf.specs.Meaning.{last}
use Rattle.sentinel_conf.specs.Watch.Binds.{everywhere}
use Rattle.sentinel_conf.specs.Watch.WatchLines.{binds_of}
use Rattle.sentinel_conf.proofs.watch.watch_confs.WatchConf.binds.Given as goal

abbrev pub invariant-loop-rest : goal.invariant-loop-rest
invariant-loop-rest l = last binds_of (everywhere ∷ []) l.fn.self ≡ last binds_of l.found l.rest

abbrev pub decreases-loop-rest : goal.decreases-loop-rest
decreases-loop-rest l = length l.rest
