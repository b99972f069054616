use Rattle.std.proofs.Common.{ℕ, ◌<◌, get_or}
use Rattle.conf_check.specs.Group.Groups.{AreOfOneGroup}
use Rattle.conf_check.proofs.group.one_group.are_alike.Given as goal

abbrev pub invariant-loop-k : goal.invariant-loop-k
invariant-loop-k g l = (k : ℕ) (d : _) → k < l.k → AreOfOneGroup l.first (g.C.HoldsConf.conf_of (get_or l.files k d))
