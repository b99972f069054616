use Rattle.std.proofs.Common.{◌≡◌, length, max}
use Rattle.std.specs.List.{filter_map}
use Rattle.sentinel_conf.specs.Meaning.{greatest}
use Rattle.conf_lines.specs.Values.{epoch_of}
use Rattle.sentinel_conf.proofs.meaning.greatest_epoch.Given as goal

abbrev pub invariant-loop-rest : goal.invariant-loop-rest
invariant-loop-rest l = greatest (filter_map epoch_of l.states) ≡ max l.greatest (greatest (filter_map epoch_of l.rest))

abbrev pub decreases-loop-rest : goal.decreases-loop-rest
decreases-loop-rest l = length l.rest
