use Rattle.std.proofs.Common.{◌≡◌, ℕ, ◌<◌, true, get_or}
use Rattle.ballot_law.specs.Orders.{same_id}
use Rattle.conf_check.specs.Change.Keeping.{HaveSameVotes, kept_staying}
use Rattle.conf_check.proofs.change.keeping.keeps_own.Given as goal

abbrev pub invariant-loop-k : goal.invariant-loop-k
invariant-loop-k g l = (k : ℕ) (d : _) → k < l.k → same_id (g.C.HoldsConf.conf_of (get_or l.files k d)).id l.new.id ≡ true
    → HaveSameVotes (kept_staying l.change (g.C.HoldsConf.conf_of (get_or l.files k d))) (kept_staying l.change l.new)
