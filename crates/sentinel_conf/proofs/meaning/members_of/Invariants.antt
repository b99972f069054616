use Rattle.std.proofs.Common.{◌≡◌, ◌∷◌, ◌++◌, length}
use Rattle.std.specs.List.{filter_map}
use Rattle.conf_lines.specs.Values.{known_of}
use Rattle.sentinel_conf.proofs.meaning.members_of.Given as goal

abbrev pub invariant-loop-rest : goal.invariant-loop-rest
invariant-loop-rest l = l.fn.own ∷ filter_map known_of l.states ≡ l.members.items ++ filter_map known_of l.rest

abbrev pub decreases-loop-rest : goal.decreases-loop-rest
decreases-loop-rest l = length l.rest
