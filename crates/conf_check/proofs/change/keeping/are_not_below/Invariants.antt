use Rattle.std.proofs.Common.{ℕ, ◌<◌, ◌≤◌}
use Rattle.std.specs.Prelude.{slice_index_or}
use Rattle.ballot_law.specs.Ballots.{no_kept}
use Rattle.conf_check.proofs.change.keeping.are_not_below.Given as goal

abbrev pub invariant-loop-m : goal.invariant-loop-m
invariant-loop-m l = (k : ℕ) → k < l.m → (slice_index_or l.olds k no_kept).card.epoch ≤ (slice_index_or l.news k no_kept).card.epoch
