-- The data nodes of a roster by number: they are counted over its masters in order, each master's by address.
use Rattle.std.specs.Prelude.{ℕ, zero, suc, ◌+◌, ◌-◌, nat_lt, Option, Some, None, List, [], ◌∷◌, length, slice_index_or, if◌then◌else◌}
use Rattle.std.specs.List.{sum_by}
use Rattle.ballot_law.specs.declared.addresses.Addr.{Addr}
use Rattle.ballot_law.specs.declared.node_places.NodePlace.{NodePlace}
use Rattle.ballot_law.specs.Rosters.{Roster, MasterPlan, master_at, no_addr}

-- the data nodes of all masters
abbrev pub node_count : Roster → ℕ
node_count roster = sum_by (λ master. length master.nodes) roster.masters

-- the number of a master's first data node among all data nodes
abbrev pub first_number : List MasterPlan → (m : ℕ) → ℕ
first_number [] m = 0
first_number (master ∷ masters) zero = 0
first_number (master ∷ masters) (suc m) = length master.nodes + first_number masters m

-- the data node with a number, where the masters are counted from `first` on
abbrev pub node_numbered : List MasterPlan → (first number : ℕ) → Option NodePlace
node_numbered [] first number = None
node_numbered (master ∷ masters) first number =
    if nat_lt number (length master.nodes) then Some (record { master = first; place = number })
    else node_numbered masters (first + 1) (number - length master.nodes)

-- the address at a place
abbrev pub addr_in : Roster → NodePlace → Addr
addr_in roster at = slice_index_or (master_at roster at.master).nodes at.place no_addr
