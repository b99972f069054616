-- What keeps a roster from being made: the first of a list of tests that fits.
use Rattle.std.specs.Prelude.{◌≡◌, ℕ, ◌<◌, ◌≤◌, ◌⊎◌, Result, Ok, Err, Bool, true, false, ◌==◌, nat_lt, List, [], ◌∷◌, ◌++◌, length, map, Option, Some, None}
use Rattle.std.specs.List.{list_any, flat_map}
use Rattle.ballot_law.specs.declared.addresses.Addr.{Addr}
use Rattle.ballot_law.specs.declared.rosters.RosterFault.{RosterFault}
use Rattle.ballot_law.specs.declared.rosters.TheConstants.{SENTINELS_MAX, MASTERS_MAX, NODES_MAX}
use Rattle.ballot_law.specs.declared.rosters.RosterFault.TheVariants.{NoSentinel, TooManySentinels, NoMaster, TooManyMasters, SameName, NoNode, TooManyNodes, QuorumZero, SameRunId, SharedAddress, NoMemory}
use Rattle.ballot_law.specs.Ordered.{repeats}
use Rattle.ballot_law.specs.Rosters.{Roster, master_at, ordered}
use Rattle.ballot_law.specs.Orders.{same_bytes, same_id, same_addr}

-- the first fault whose test fits
abbrev pub first_that_fits : {F : Type 0} → List (Bool × F) → Option F
first_that_fits [] = None
first_that_fits (test ∷ tests) = elim test.0 [ true ↦ Some test.1 | false ↦ first_that_fits tests ]

abbrev pub first_tests : Roster → List (Bool × RosterFault)
first_tests roster =
    (length roster.sentinels == 0, NoSentinel)
    ∷ (nat_lt SENTINELS_MAX (length roster.sentinels), TooManySentinels)
    ∷ (length roster.masters == 0, NoMaster)
    ∷ (nat_lt MASTERS_MAX (length roster.masters), TooManyMasters)
    ∷ (repeats (λ a b. same_bytes a.name b.name) roster.masters, SameName)
    ∷ []

-- the addresses of all Sentinels and data nodes
abbrev pub addresses : Roster → List Addr
addresses roster = map (λ member. member.addr) roster.sentinels ++ flat_map (λ master. master.nodes) roster.masters

abbrev pub last_tests : Roster → List (Bool × RosterFault)
last_tests roster =
    (list_any (λ master. length master.nodes == 0) roster.masters, NoNode)
    ∷ (list_any (λ master. nat_lt NODES_MAX (length master.nodes)) roster.masters, TooManyNodes)
    ∷ (list_any (λ master. master.quorum == 0) roster.masters, QuorumZero)
    ∷ (repeats (λ a b. same_id a.id b.id) roster.sentinels, SameRunId)
    ∷ (repeats same_addr (addresses roster), SharedAddress)
    ∷ []

abbrev pub tests : Roster → List (Bool × RosterFault)
tests roster = first_tests roster ++ last_tests roster

abbrev pub fault_of : Roster → Option RosterFault
fault_of roster = first_that_fits (tests roster)

-- what making a roster of these members may give
abbrev pub Makes : Roster → Result Roster RosterFault → Type 0
Makes given (Ok roster) = (fault_of given ≡ None) × (roster ≡ ordered given)
Makes given (Err fault) = (fault ≡ NoMemory) ⊎ (fault_of given ≡ Some fault)

-- what is known of each roster: it was made of members of which no fault fits, and so it is not large
pub record IsMade (roster : Roster) : Type 0 where
  pub given : Roster
  pub fits : fault_of given ≡ None
  pub in_order : roster ≡ ordered given

pub record IsRoster (roster : Roster) : Type 0 where
  pub few_sentinels : length roster.sentinels ≤ SENTINELS_MAX
  pub few_masters : length roster.masters ≤ MASTERS_MAX
  pub few_nodes : (m : ℕ) → m < length roster.masters → length (master_at roster m).nodes ≤ NODES_MAX
  pub made : ∥ IsMade roster ∥₁
