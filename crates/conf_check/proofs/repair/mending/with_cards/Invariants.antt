use Rattle.std.proofs.Common.{◌≡◌, ◌++◌, length}
use Rattle.conf_check.specs.Repair.Mended.{with_cards}
use Rattle.conf_check.proofs.repair.mending.with_cards.Given as goal

abbrev pub invariant-loop-rest : goal.invariant-loop-rest
invariant-loop-rest l = with_cards l.masters l.cards ≡ l.list.items ++ with_cards l.rest l.others

abbrev pub decreases-loop-rest : goal.decreases-loop-rest
decreases-loop-rest l = length l.rest
