use Rattle.std.proofs.Common.{◌≡◌, ℕ, ◌<◌}
use Rattle.std.specs.Prelude.{slice_index_or}
use Rattle.ballot_law.specs.Ballots.{no_kept}
use Rattle.conf_check.proofs.group.differences.other_start.Given as goal

abbrev pub invariant-loop-m : goal.invariant-loop-m
invariant-loop-m l = (k : ℕ) → k < l.m → (slice_index_or l.some k no_kept).card ≡ (slice_index_or l.others k no_kept).card
