-- Rosters that differ in data nodes, quorums and addresses of Sentinels alone, and the model of a group whose Sentinels have such rosters.
use Rattle.std.specs.Prelude.{◌≡◌, ◌≤◌, ℕ, List, [], ◌∷◌, Contains}
use Rattle.std.specs.List.{AllZip}
use Rattle.ballot_law.specs.declared.addresses.Addr.{Addr}
use Rattle.ballot_law.specs.Law.{IsStart}
use Rattle.ballot_law.specs.Rosters.{Roster, MasterPlan, HasDistinctIds, size, id_of}
use Rattle.ballot_law.specs.Worlds.{World as Group, Move, Moves, Joined}

-- the same master but for data nodes and its quorum: the other list has all of the first, and the other quorum is no greater, so that whoever has the votes that
-- the first asks for has those that the other does
pub record IsMasterWithin (one other : MasterPlan) : Type 0 where
  pub name : one.name ≡ other.name
  pub quorum : other.quorum ≤ one.quorum
  pub nodes : (addr : Addr) → Contains one.nodes addr → Contains other.nodes addr

-- as many Sentinels, whose run ids are the same in the same order; of their addresses nothing is asked
abbrev pub HaveSameIds : Roster → Roster → Type 0
HaveSameIds one other = (size one ≡ size other) × ((i : ℕ) → id_of one i ≡ id_of other i)

-- Sentinels with the same run ids, and the same masters but for data nodes and quorums: each list of the second roster has all of the first roster's, and each of its
-- quorums is at most the first roster's. So rosters that differ so from one roster may have different lists and quorums, and none of them needs to have all or the least
abbrev pub DifferInNodes : Roster → Roster → Type 0
DifferInNodes own whole = HaveSameIds own whole × AllZip IsMasterWithin own.masters whole.masters

-- a run each of whose moves goes by a roster of its own, that of the Sentinel that moves, say
abbrev pub JoinedByOwn : Roster → List Move → Group → Group → Type 0
JoinedByOwn whole [] w last = w ≡ last
JoinedByOwn whole (move ∷ moves) w last =
    (own : Roster) × (w2 : Group) × DifferInNodes own whole × Moves own move w w2 × JoinedByOwn whole moves w2 last

-- such a run is one of the model in which all know the roster with all lists, and a start by one's own roster is one by that
pub record OwnListsAreARun : Type 0 where
  pub runs : (whole : Roster) (moves : List Move) (start last : Group) → JoinedByOwn whole moves start last → Joined whole moves start last
  pub starts : (own whole : Roster) → DifferInNodes own whole → (start : Group) → IsStart own start → IsStart whole start
  pub ids : (own whole : Roster) → DifferInNodes own whole → HasDistinctIds own → HasDistinctIds whole
