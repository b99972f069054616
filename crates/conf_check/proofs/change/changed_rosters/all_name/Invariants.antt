use Rattle.std.proofs.Common.{ℕ, ◌<◌, get_or}
use Rattle.conf_check.specs.Change.ChangedRosters.{HasChangedRoster}
use Rattle.conf_check.proofs.change.changed_rosters.all_name.Given as goal

abbrev pub invariant-loop-k : goal.invariant-loop-k
invariant-loop-k g l = (k : ℕ) (d : _) → k < l.k → HasChangedRoster g.C.HoldsConf.conf_of l.files l.change (get_or l.news k d)
