use Rattle.std.proofs.Common.{◌≡◌, ◌++◌, map, length}
use Rattle.conf_check.specs.Repair.Mended.{card_of, newer_each}
use Rattle.conf_check.proofs.repair.mending.newer_each.Given as goal

abbrev pub invariant-loop-rest : goal.invariant-loop-rest
invariant-loop-rest l = newer_each l.cards (map card_of l.masters) ≡ l.list.items ++ newer_each l.rest (map card_of l.others)

abbrev pub decreases-loop-rest : goal.decreases-loop-rest
decreases-loop-rest l = length l.rest
