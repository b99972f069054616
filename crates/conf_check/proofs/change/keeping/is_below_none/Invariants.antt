use Rattle.std.proofs.Common.{ℕ, ◌<◌, get_or}
use Rattle.conf_check.specs.Change.Keeping.{IsNotBelow}
use Rattle.conf_check.proofs.change.keeping.is_below_none.Given as goal

abbrev pub invariant-loop-k : goal.invariant-loop-k
invariant-loop-k g l = (k : ℕ) (d : _) → k < l.k → IsNotBelow l.change (g.C.HoldsConf.conf_of (get_or l.files k d)) l.new
