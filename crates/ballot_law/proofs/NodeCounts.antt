-- The data nodes of a roster, counted over its masters.
use Rattle.std.proofs.Common.{◌≡◌, ℕ, ◌≤◌, ◌*◌, List, length, take}
use Rattle.std.specs.List.{sum_by}
use Rattle.ballot_law.specs.declared.rosters.TheConstants.{NODES_MAX}
use Rattle.ballot_law.specs.Rosters.{MasterPlan}

-- the nodes of the first k masters
pub record CountedTo (masters : List MasterPlan) (k count : ℕ) : Type 0 where
  pub value : count ≡ sum_by (λ master. length master.nodes) (take k masters)
  pub few : count ≤ NODES_MAX * k
