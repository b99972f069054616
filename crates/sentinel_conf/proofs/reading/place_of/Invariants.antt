use Rattle.std.proofs.Common.{◌≡◌, ℕ, ◌<◌, ◌≤◌, ◌-◌, length, get_or, false}
use Rattle.ballot_law.specs.declared.rosters.Member.{Member}
use Rattle.ballot_law.specs.Orders.{same_id}
use Rattle.sentinel_conf.proofs.reading.place_of.Given as goal

abbrev pub invariant-loop-place : goal.invariant-loop-place
invariant-loop-place l = record {
  within : l.place ≤ length l.members;
  others : (k : ℕ) (d : Member) → k < l.place → same_id l.id (get_or l.members k d).id ≡ false;
}

abbrev pub decreases-loop-place : goal.decreases-loop-place
decreases-loop-place l = length l.members - l.place
