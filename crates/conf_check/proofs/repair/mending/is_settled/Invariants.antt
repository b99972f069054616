use Rattle.std.proofs.Common.{◌≡◌, map, length}
use Rattle.conf_check.specs.Repair.Mended.{all_agree}
use Rattle.conf_check.proofs.repair.mending.is_settled.Given as goal

abbrev pub invariant-loop-rest : goal.invariant-loop-rest
invariant-loop-rest g l = all_agree l.newest (map g.C.HoldsConf.conf_of l.files) ≡ all_agree l.newest (map g.C.HoldsConf.conf_of l.rest)

abbrev pub decreases-loop-rest : goal.decreases-loop-rest
decreases-loop-rest g l = length l.rest
