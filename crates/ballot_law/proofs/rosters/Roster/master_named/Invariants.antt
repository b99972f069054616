use Rattle.std.proofs.Common.{◌≢◌, ℕ, ◌<◌}
use Rattle.ballot_law.specs.Rosters.{no_master}
use Rattle.std.proofs.Common.{get_or}
use Rattle.ballot_law.proofs.rosters.Roster.master_named.Given as goal

abbrev pub invariant-loop-m : goal.invariant-loop-m
invariant-loop-m l = (k : ℕ) → k < l.m → (get_or l.self.masters k no_master).name ≢ l.name
