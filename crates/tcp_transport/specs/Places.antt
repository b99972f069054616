-- To which node the connection at each place of a Sentinel is.
use Rattle.std.specs.Prelude.{◌≡◌, ◌≢◌, ◌+◌, ◌<◌, ℕ, List, [], ◌∷◌, length, map, Option, Some, None}
use Rattle.ballot_law.specs.declared.addresses.RunId.{RunId}
use Rattle.ballot_law.specs.declared.messages.NodeName.TheVariants.{SentinelAt}
use Rattle.ballot_law.specs.Rosters.{Roster, size, id_of}
use Rattle.links.specs.declared.target.Target.{Target}
use Rattle.links.specs.Targets.{connection_count, IsOf}

-- the place of the Sentinel with this run id
abbrev pub IsPlaceOf : Roster → RunId → (own : ℕ) → Type 0
IsPlaceOf roster id own = (own < size roster) × (id_of roster own ≡ id)

-- a connection of whatever Sentinel of this roster: its node, that one's address and run id are those that the roster has at one of the places
abbrev pub IsOfRoster : Roster → Target → Type 0
IsOfRoster roster target = (place : ℕ) × IsOf roster place target

-- at its place, a connection of the Sentinel at the place `own` is to the roster's node there, which is another one; its own place has none
abbrev pub IsAt : Roster → (own place : ℕ) → Option Target → Type 0
IsAt roster own place None = place ≡ own
IsAt roster own place (Some target) = IsOf roster place target × (target.node ≢ SentinelAt own)

-- one after the other, from this place on
abbrev pub AreFrom : Roster → (own place : ℕ) → List (Option Target) → Type 0
AreFrom roster own place [] = Unit {0}
AreFrom roster own place (target ∷ targets) = IsAt roster own place target × AreFrom roster own (place + 1) targets

-- all connections of the Sentinel at this place of the roster
pub record AreOf (roster : Roster) (own : ℕ) (targets : List (Option Target)) : Type 0 where
  pub count : length targets ≡ connection_count roster
  pub each : AreFrom roster own 0 targets

-- to where the connection is that is at a place
abbrev pub target_at : {A : Type 0} → (A → Target) → Option A → Option Target
target_at to None = None
target_at to (Some one) = Some (to one)

abbrev pub targets_of : {A : Type 0} → (A → Target) → List (Option A) → List (Option Target)
targets_of to places = map (target_at to) places

-- a connection may be to where this one is
abbrev pub IsReached : (reaches : Target → Type 0) → Option Target → Type 0
IsReached reaches None = Unit {0}
IsReached reaches (Some target) = ∥ reaches target ∥₁
