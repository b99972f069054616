use Rattle.std.proofs.Common.{◌≡◌, map, length}
use Rattle.conf_check.specs.Repair.Mended.{card_of}
use Rattle.conf_check.proofs.change.keeping.have_cards.Given as goal

abbrev pub invariant-loop-rest : goal.invariant-loop-rest
invariant-loop-rest l = map card_of l.rest ≡ l.others → map card_of l.masters ≡ l.cards

abbrev pub decreases-loop-rest : goal.decreases-loop-rest
decreases-loop-rest l = length l.rest
