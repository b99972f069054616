use Rattle.std.proofs.Common.{ℕ, ◌<◌, get_or}
use Rattle.conf_check.specs.Change.Keeping.{Keeps}
use Rattle.conf_check.proofs.change.keeping.all_keep.Given as goal

abbrev pub invariant-loop-k : goal.invariant-loop-k
invariant-loop-k g l = (k : ℕ) (d : _) → k < l.k → Keeps g.C.HoldsConf.conf_of l.files l.change (get_or l.news k d)
