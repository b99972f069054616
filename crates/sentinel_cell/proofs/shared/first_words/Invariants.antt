use Rattle.std.proofs.Common.{◌≡◌, ◌+◌, ◌<◌, ◌≤◌, ℕ, length, slice_index}
use Rattle.std.specs.Vec.{vec_capacity}
use Rattle.ballot_law.specs.Ballots.{card_of}
use Rattle.sentinel_rules.specs.Plans.{addr_at}
use Rattle.sentinel_cell.specs.Turns.{unpacked}
use Rattle.sentinel_cell.proofs.shared.first_words.Given as goal

abbrev pub invariant-loop-m : goal.invariant-loop-m
invariant-loop-m l =
    (length l.words.items ≡ l.m + 2) × (l.count + 2 ≤ vec_capacity l.words) × (slice_index l.words.items 0 ≡ 0) × (slice_index l.words.items 1 ≡ 0)
    × ((k : ℕ) → k < l.m → unpacked (addr_at l.sentinel.plan) k (slice_index l.words.items (k + 2)) ≡ card_of l.sentinel.stored k)
