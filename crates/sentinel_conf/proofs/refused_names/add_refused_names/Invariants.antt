use Rattle.std.proofs.Common.{◌≡◌, ◌++◌, length}
use Rattle.std.specs.List.{filter_map}
use Rattle.sentinel_conf.specs.RefusedNames.{refused_name}
use Rattle.sentinel_conf.proofs.refused_names.add_refused_names.Given as goal

abbrev pub invariant-loop-rest : goal.invariant-loop-rest
invariant-loop-rest l = l.fn.names.items ++ filter_map refused_name l.lines ≡ l.names.items ++ filter_map refused_name l.rest

abbrev pub decreases-loop-rest : goal.decreases-loop-rest
decreases-loop-rest l = length l.rest
