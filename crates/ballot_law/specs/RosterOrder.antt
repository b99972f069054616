-- The order of a roster, and that it has the members that were given.
use Rattle.std.specs.Prelude.{◌≡◌, ℕ, ◌<◌, List, length}
use Rattle.std.specs.List.{AllZip}
use Rattle.std.specs.List.Sorted.{IsSortedBy, IsPermutation}
use Rattle.ballot_law.specs.Orders.{addr_before, id_before, bytes_before}
use Rattle.ballot_law.specs.Rosters.{Roster, MasterPlan, master_at}

-- the Sentinels by run id, the masters by the bytes of their names, each master's nodes by address
pub record IsInOrder (roster : Roster) : Type 0 where
  pub sentinels : IsSortedBy (λ a b. id_before a.id b.id) roster.sentinels
  pub masters : IsSortedBy (λ a b. bytes_before a.name b.name) roster.masters
  pub nodes : (m : ℕ) → m < length roster.masters → IsSortedBy addr_before (master_at roster m).nodes

-- one master, whose nodes may stand in another order
abbrev pub IsSameMaster : MasterPlan → MasterPlan → Type 0
IsSameMaster one other = (one.name ≡ other.name) × (one.quorum ≡ other.quorum) × IsPermutation one.nodes other.nodes

-- the same Sentinels and masters, each once; `listed` is the given masters with the nodes of each in another order
pub record HasSameMembers (given roster : Roster) : Type 0 where
  pub sentinels : IsPermutation given.sentinels roster.sentinels
  pub listed : List MasterPlan
  pub each : AllZip IsSameMaster given.masters listed
  pub masters : IsPermutation listed roster.masters
