use Rattle.std.proofs.Common.{◌≡◌, map, length}
use Rattle.conf_check.specs.Repair.Mended.{card_of}
use Rattle.sentinel_group.proofs.change_orders.have_same_cards.Given as goal

abbrev pub invariant-loop-rest : goal.invariant-loop-rest
invariant-loop-rest l = map card_of l.rest ≡ map card_of l.others → map card_of l.some ≡ map card_of l.all

abbrev pub decreases-loop-rest : goal.decreases-loop-rest
decreases-loop-rest l = length l.rest
