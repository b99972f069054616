use Rattle.std.proofs.Common.{◌≡◌, map, length}
use Rattle.conf_check.specs.Repair.Mended.{card_of, agree}
use Rattle.conf_check.proofs.repair.mending.do_agree.Given as goal

abbrev pub invariant-loop-rest : goal.invariant-loop-rest
invariant-loop-rest l = agree l.newest (map card_of l.masters) ≡ agree l.rest (map card_of l.others)

abbrev pub decreases-loop-rest : goal.decreases-loop-rest
decreases-loop-rest l = length l.rest
