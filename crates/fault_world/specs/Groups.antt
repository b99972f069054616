-- Which nodes are the group of a roster, and whether its Sentinels begin with the same configurations.
use Rattle.std.specs.Prelude.{◌≡◌, ◌≢◌, ℕ, ◌<◌, Some, List, All, length, slice_get}
use Rattle.ballot_law.specs.declared.messages.NodeName.{NodeName}
use Rattle.ballot_law.specs.declared.messages.NodeName.TheVariants.{SentinelAt, StoreAt, ClientAt, PortAt}
use Rattle.ballot_law.specs.NodePlaces.{node_count}
use Rattle.ballot_law.specs.Rosters.{Roster, size}
use Rattle.boxed_nodes.specs.Images.{Image, card_shown}
use Rattle.boxed_nodes.specs.Moves.{Shows}

-- a Sentinel or a data node of the roster, or a client
abbrev pub IsPlaced : Roster → NodeName → Type 0
IsPlaced roster (SentinelAt i) = i < size roster
IsPlaced roster (StoreAt k) = k < node_count roster
IsPlaced roster (ClientAt k) = Unit {0}
IsPlaced roster (PortAt k) = ⊥

-- one of the nodes has the name
abbrev pub HasNamed : {N : Type 0} → (N → NodeName) → List N → NodeName → Type 0
HasNamed {N} name nodes wanted = (k : ℕ) × (n : N) × (slice_get nodes k ≡ Some n) × (name n ≡ wanted)

-- no node that stands earlier has the name of the one at this place
abbrev pub IsFirstNamed : {N : Type 0} → (N → NodeName) → List N → ℕ → Type 0
IsFirstNamed {N} name nodes place =
    (j : ℕ) (m n : N) → j < place → slice_get nodes j ≡ Some m → slice_get nodes place ≡ Some n → name m ≢ name n

-- no two nodes have one name
abbrev pub AreApart : {N : Type 0} → (N → NodeName) → List N → Type 0
AreApart {N} name nodes =
    (j k : ℕ) (m n : N) → slice_get nodes j ≡ Some m → slice_get nodes k ≡ Some n → name m ≡ name n → j ≡ k

-- the nodes of a kind, up to this number, are there
abbrev pub HasAllBelow : {N : Type 0} → (N → NodeName) → List N → (ℕ → NodeName) → ℕ → Type 0
HasAllBelow name nodes numbered count = (i : ℕ) → i < count → HasNamed name nodes (numbered i)

-- each Sentinel and each data node of the roster once, and clients of different names; each knows the roster
pub record IsGroupOf {N : Type 0} (name : N → NodeName) (knows : N → Type 0) (roster : Roster) (nodes : List N) : Type 0 where
  pub placed : All (λ n. IsPlaced roster (name n)) nodes
  pub known : All knows nodes
  pub apart : AreApart name nodes
  pub sentinels : HasAllBelow name nodes SentinelAt (size roster)
  pub stores : HasAllBelow name nodes StoreAt (node_count roster)

abbrev pub IsSentinelName : NodeName → Type 0
IsSentinelName (SentinelAt i) = Unit {0}
IsSentinelName name = ⊥

-- two nodes tell the same configuration of each master
abbrev pub HaveSameCards : Roster → (one other : Image → Type 0) → Type 0
HaveSameCards roster one other =
    (m : ℕ) → m < length roster.masters → (x y : Image) → one x → other y → card_shown x m ≡ card_shown y m

-- each Sentinel tells the same as the node at this place
abbrev pub IsAlike : {N : Type 0} → (N → NodeName) → (N → Shows) → Roster → List N → ℕ → Type 0
IsAlike {N} name shows roster nodes place =
    (k : ℕ) (m n : N) → slice_get nodes place ≡ Some m → slice_get nodes k ≡ Some n → IsSentinelName (name n) → HaveSameCards roster (shows m roster) (shows n roster)

-- if the node at this place is a Sentinel, each Sentinel tells the same as it
abbrev pub IsMatched : {N : Type 0} → (N → NodeName) → (N → Shows) → Roster → List N → ℕ → Type 0
IsMatched {N} name shows roster nodes place =
    (m : N) → slice_get nodes place ≡ Some m → IsSentinelName (name m) → IsAlike name shows roster nodes place

-- each two Sentinels tell the same
abbrev pub BeginAlike : {N : Type 0} → (N → NodeName) → (N → Shows) → Roster → List N → Type 0
BeginAlike {N} name shows roster nodes =
    (j k : ℕ) (m n : N) → slice_get nodes j ≡ Some m → slice_get nodes k ≡ Some n → IsSentinelName (name m) → IsSentinelName (name n) →
    HaveSameCards roster (shows m roster) (shows n roster)
