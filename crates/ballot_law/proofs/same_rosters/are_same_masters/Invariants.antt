use Rattle.std.proofs.Common.{◌≡◌, take}
use Rattle.ballot_law.proofs.same_rosters.are_same_masters.Given as goal

abbrev pub invariant-loop-place : goal.invariant-loop-place
invariant-loop-place l = take l.place l.some ≡ take l.place l.others
