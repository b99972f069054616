-- Each process keeps to the lists of its own file, and any such lists are in one roster.
use Rattle.std.specs.Prelude.{◌≡◌, ℕ, ◌<◌, ◌≤◌, true, false, List, [], All, Contains, length}
use Rattle.std.specs.List.{AllZip}
use Rattle.ballot_law.specs.declared.cards.Kept.{Kept}
use Rattle.ballot_law.specs.Ballots.{card_of}
use Rattle.ballot_law.specs.Law.{IsStart}
use Rattle.ballot_law.specs.NodePlaces.{node_count}
use Rattle.ballot_law.specs.Rosters.{Roster, MasterPlan, size}
use Rattle.ballot_law.specs.Worlds.{World as Group}
use Rattle.sentinel_cell.specs.Histories.{World}
use Rattle.sentinel_conf.specs.Facts.{IsSoundConf}
use Rattle.sentinel_conf.specs.Meaning.{ConfPlan}
use Rattle.sentinel_rules.specs.Plans.{Plan, nodes_of, master_count}
use Rattle.process_laws.specs.Actions.{Action, AreActions, actions_after, at_first}
use Rattle.process_laws.specs.Differing.{DifferInNodes, HaveSameIds}

-- this plan's list of the master has the configuration's address
abbrev pub IsListed : Plan → (m : ℕ) → Kept → Type 0
IsListed plan m kept = Contains (nodes_of plan m) (card_of kept m).addr

-- what is kept is listed, and so is what is stored while no store was refused
abbrev pub KeepsTo : Plan → World → (m : ℕ) → Type 0
KeepsTo plan w m = m < master_count plan → IsListed plan m w.core.kept × (w.halted ≡ false → IsListed plan m w.stored)

-- a process that runs keeps to the lists of its own file, and so takes no address that these lack, whatever the others know
abbrev pub ListsAreKept : Type 0
ListsAreKept =
    (roster : Roster) (start : Group) (actions : List Action) (i m : ℕ) →
    IsStart roster start →
    AreActions roster (length start.stores) (at_first start) [] actions →
    i < size roster →
    (actions_after (at_first start) actions i).runs ≡ true →
    KeepsTo (actions_after (at_first start) actions i).world.plan (actions_after (at_first start) actions i).world m

abbrev pub IsSameMaster : MasterPlan → MasterPlan → Type 0
IsSameMaster one other = one.name ≡ other.name

-- Sentinels with the same run ids, and masters with the same names, in the same order; of data nodes, quorums and addresses of Sentinels nothing is asked
abbrev pub AreSameButForNodes : Roster → Roster → Type 0
AreSameButForNodes one other = HaveSameIds one other × AllZip IsSameMaster one.masters other.masters

-- such rosters differ in data nodes, quorums and addresses of Sentinels alone from one that has all lists, and the least quorums
abbrev pub ListsHaveAUnion : Type 0
ListsHaveAUnion =
    (first : Roster) (others : List Roster) →
    All (AreSameButForNodes first) others →
    (whole : Roster) × DifferInNodes first whole × All (λ (other : Roster). DifferInNodes other whole) others

-- a Sentinel whose own lists are in those of the whole has no number for a data node that the whole hasn't
abbrev pub NumbersFit : Type 0
NumbersFit = (conf : ConfPlan) (whole : Roster) → IsSoundConf conf → DifferInNodes conf.roster whole → node_count conf.roster ≤ node_count whole
