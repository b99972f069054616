use Rattle.std.proofs.Common.{◌≡◌, length}
use Rattle.tokens.specs.Quotes.{joined}
use Rattle.sentinel_conf.specs.Watch.Binds.{binds_in}
use Rattle.sentinel_conf.proofs.watch.binds.binds_in.Given as goal

abbrev pub invariant-loop-rest : goal.invariant-loop-rest
invariant-loop-rest l = binds_in l.words ≡ joined l.binds.items (binds_in l.rest)

abbrev pub decreases-loop-rest : goal.decreases-loop-rest
decreases-loop-rest l = length l.rest
