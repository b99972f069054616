use Rattle.std.proofs.Common.{◌≡◌, ℕ, ◌<◌, false, get_or}
use Rattle.std.specs.List.{list_any}
use Rattle.ballot_law.specs.Rosters.{no_master}
use Rattle.ballot_law.specs.Orders.{same_addr}
use Rattle.ballot_law.proofs.rosters.Roster.master_at.Given as goal

abbrev pub invariant-loop-m : goal.invariant-loop-m
invariant-loop-m l = (k : ℕ) → k < l.m → list_any (same_addr l.addr) (get_or l.self.masters k no_master).nodes ≡ false
