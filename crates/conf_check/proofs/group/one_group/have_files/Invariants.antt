use Rattle.std.proofs.Common.{◌≡◌, ℕ, ◌<◌, true}
use Rattle.std.specs.List.{list_any}
use Rattle.ballot_law.specs.Orders.{same_id}
use Rattle.ballot_law.specs.Rosters.{id_of}
use Rattle.conf_check.proofs.group.one_group.have_files.Given as goal

abbrev pub invariant-loop-place : goal.invariant-loop-place
invariant-loop-place g l = (k : ℕ) → k < l.place → list_any (λ file. same_id (id_of l.first.roster k) (g.C.HoldsConf.conf_of file).id) l.files ≡ true
