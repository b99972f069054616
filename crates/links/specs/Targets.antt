-- Which node each connection of a Sentinel is to.
use Rattle.std.specs.Prelude.{◌≡◌, ℕ, ◌+◌, ◌*◌, ◌<◌, ◌⊎◌, nat_lt, false, Option, Some, None, slice_index_or, if◌then◌else◌}
use Rattle.std.specs.Int.{from_bool}
use Rattle.ballot_law.specs.declared.messages.NodeName.{NodeName}
use Rattle.ballot_law.specs.declared.messages.NodeName.TheVariants.{SentinelAt, StoreAt}
use Rattle.ballot_law.specs.declared.node_places.NodePlace.{NodePlace}
use Rattle.ballot_law.specs.NodePlaces.{node_count, node_numbered, addr_in}
use Rattle.ballot_law.specs.Rosters.{Roster, size, no_member}
use Rattle.links.specs.declared.target.Target.{Target}

-- the places: one for each Sentinel, then two for each data node
abbrev pub connection_count : Roster → ℕ
connection_count roster = size roster + 2 * node_count roster

-- the place of the connection that takes what is for a node
abbrev pub place_of : Roster → NodeName → Option ℕ
place_of roster (SentinelAt place) = if nat_lt place (size roster) then Some place else None
place_of roster (StoreAt number) = if nat_lt number (node_count roster) then Some (size roster + 2 * number) else None
place_of roster _ = None

-- a connection to the Sentinel at this place of the roster
pub record IsSentinel (roster : Roster) (place : ℕ) (target : Target) : Type 0 where
  pub node : target.node ≡ SentinelAt place
  pub within : place < size roster
  pub addr : target.addr ≡ (slice_index_or roster.sentinels place no_member).addr
  pub id : target.id ≡ Some (slice_index_or roster.sentinels place no_member).id
  pub speaks : target.listens ≡ false

-- a connection to the data node with this number
pub record IsStore (roster : Roster) (number : ℕ) (target : Target) : Type 0 where
  pub node : target.node ≡ StoreAt number
  pub at : NodePlace
  pub numbered : node_numbered roster.masters 0 number ≡ Some at
  pub addr : target.addr ≡ addr_in roster at
  pub id : target.id ≡ None

-- the connection at this place
abbrev pub IsOf : Roster → (place : ℕ) → Target → Type 0
IsOf roster place target =
    IsSentinel roster place target
    ⊎ ((number : ℕ) × (place ≡ size roster + (2 * number + from_bool target.listens)) × IsStore roster number target)
