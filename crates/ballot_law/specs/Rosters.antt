-- A roster as contracts see it: its order, and what is asked of it.
use Rattle.std.specs.Prelude.{◌≡◌, ℕ, zero, suc, true, false, ◌+◌, ◌/◌, ◌<◌, ◌⊎◌, max, Option, Some, None, List, [], ◌∷◌, length, map, position, slice_index_or}
use Rattle.std.specs.List.{list_any}
use Rattle.ballot_law.specs.declared.addresses.Addr.{Addr}
use Rattle.ballot_law.specs.declared.addresses.RunId.{RunId}
use Rattle.ballot_law.specs.declared.rosters.Member.{Member}
use Rattle.ballot_law.specs.Ordered.{in_order}
use Rattle.ballot_law.specs.Orders.{same_addr, same_bytes, addr_before, id_before, bytes_before}

pub record MasterPlan : Type 0 where
  pub name : List ℕ
  pub nodes : List Addr
  pub quorum : ℕ

-- Sentinels and masters go by their places in these lists
pub record Roster : Type 0 where
  pub sentinels : List Member
  pub masters : List MasterPlan

abbrev pub nodes_in_order : MasterPlan → MasterPlan
nodes_in_order master = record master { nodes = in_order addr_before master.nodes }

-- Sentinels by run id, masters by name, each master's nodes by address
abbrev pub ordered : Roster → Roster
ordered roster = record {
  sentinels = in_order (λ a b. id_before a.id b.id) roster.sentinels;
  masters = in_order (λ a b. bytes_before a.name b.name) (map nodes_in_order roster.masters);
}

abbrev pub no_addr : Addr
no_addr = record { ip = 0; port = 0 }

abbrev pub no_id : RunId
no_id = record { hi = 0; lo = 0 }

abbrev pub no_member : Member
no_member = record { id = no_id; addr = no_addr }

abbrev pub no_master : MasterPlan
no_master = record { name = []; nodes = []; quorum = 0 }

abbrev pub size : Roster → ℕ
size roster = length roster.sentinels

abbrev pub master_at : Roster → ℕ → MasterPlan
master_at roster m = slice_index_or roster.masters m no_master

abbrev pub id_of : Roster → ℕ → RunId
id_of roster i = (slice_index_or roster.sentinels i no_member).id

-- how many votes elect a Sentinel for the master with this number: more than half of all Sentinels, and the quorum
abbrev pub need : Roster → ℕ → ℕ
need roster m = max (size roster / 2 + 1) (master_at roster m).quorum

-- the list of this master has the address
abbrev pub HasNode : Roster → ℕ → Addr → Type 0
HasNode roster m addr = list_any (same_addr addr) (master_at roster m).nodes ≡ true

-- the number of the first of these masters whose list has the address
abbrev pub master_listing : List MasterPlan → Addr → Option ℕ
master_listing masters addr = position (λ (master : MasterPlan). list_any (same_addr addr) master.nodes) masters

-- the number of the first of these masters that has the name, where they are numbered from `first` on
abbrev pub number_named : (first : ℕ) → List ℕ → List MasterPlan → Option ℕ
number_named first name [] = None
number_named first name (master ∷ masters) =
    elim (same_bytes name master.name) [ true ↦ Some first | false ↦ number_named (first + 1) name masters ]

-- the number of the master with this name
abbrev pub master_named : Roster → List ℕ → Option ℕ
master_named roster name = number_named 0 name roster.masters

-- no two Sentinels have one run id
abbrev pub HasDistinctIds : Roster → Type 0
HasDistinctIds roster = (i j : ℕ) → i < size roster → j < size roster → id_of roster i ≡ id_of roster j → i ≡ j

-- no two masters have one name
abbrev pub HasDistinctNames : Roster → Type 0
HasDistinctNames roster =
    (m k : ℕ) → m < length roster.masters → k < length roster.masters → (master_at roster m).name ≡ (master_at roster k).name → m ≡ k

-- at least so many of the first n numbers are in P
abbrev pub AtLeast : (ℕ → Type 0) → (n count : ℕ) → Type 0
AtLeast P zero zero = Unit {0}
AtLeast P zero (suc count) = ⊥
AtLeast P (suc n) zero = Unit {0}
AtLeast P (suc n) (suc count) = (P n × AtLeast P n count) ⊎ AtLeast P n (suc count)
