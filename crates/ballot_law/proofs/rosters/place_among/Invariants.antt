use Rattle.std.proofs.Common.{◌≢◌, ◌<◌, ℕ, slice_index_or}
use Rattle.ballot_law.specs.Rosters.{no_addr}
use Rattle.ballot_law.proofs.rosters.place_among.Given as goal

abbrev pub invariant-loop-k : goal.invariant-loop-k
invariant-loop-k l = (k : ℕ) → k < l.k → slice_index_or l.nodes k no_addr ≢ l.addr
