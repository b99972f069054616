use Rattle.std.proofs.Common.{◌≡◌, length}
use Rattle.std.specs.List.{list_any}
use Rattle.ballot_law.specs.Cuts.{lines}
use Rattle.ballot_law.specs.Orders.{same_bytes}
use Rattle.sentinel_conf.proofs.watch.known_directives.is_listed.Given as goal

abbrev pub invariant-loop-rest : goal.invariant-loop-rest
invariant-loop-rest l = list_any (same_bytes l.word) (lines l.table) ≡ list_any (same_bytes l.word) (lines l.rest)

abbrev pub decreases-loop-rest : goal.decreases-loop-rest
decreases-loop-rest l = length l.rest
