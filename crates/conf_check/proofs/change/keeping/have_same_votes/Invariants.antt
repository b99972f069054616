use Rattle.std.proofs.Common.{◌≡◌, ℕ, ◌<◌}
use Rattle.std.specs.Prelude.{slice_index_or}
use Rattle.ballot_law.specs.Ballots.{no_kept}
use Rattle.conf_check.specs.Repair.Mended.{vote_of}
use Rattle.conf_check.proofs.change.keeping.have_same_votes.Given as goal

abbrev pub invariant-loop-m : goal.invariant-loop-m
invariant-loop-m l = (k : ℕ) → k < l.m → vote_of (slice_index_or l.olds k no_kept) ≡ vote_of (slice_index_or l.news k no_kept)
