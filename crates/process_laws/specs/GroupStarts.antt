-- The files of one group are a start of the laws.
use Rattle.std.specs.Prelude.{◌≡◌, ℕ, ◌<◌, ◌≤◌, true, List, All, Contains, length}
use Rattle.std.specs.List.{list_any}
use Rattle.ballot_law.specs.Ballots.{StartAlike}
use Rattle.ballot_law.specs.Law.{IsStart}
use Rattle.ballot_law.specs.NodePlaces.{node_count}
use Rattle.ballot_law.specs.Orders.{same_id}
use Rattle.ballot_law.specs.Rosters.{Roster, size, id_of, HasDistinctIds}
use Rattle.ballot_law.specs.Worlds.{World as Group}
use Rattle.conf_check.specs.declared.group.report.NamedConf.{NamedConf}
use Rattle.conf_check.specs.Group.Groups.{IsOneGroup}
use Rattle.sentinel_conf.specs.Facts.{IsSoundConf}
use Rattle.sentinel_conf.specs.Meaning.{ConfPlan}
use Rattle.sentinel_rules.specs.declared.profiles.Profile.{Profile}
use Rattle.process_laws.specs.Actions.{IsOpened, at_first, opened_by}
use Rattle.process_laws.specs.Differing.{DifferInNodes}

-- at the start this file opens the Sentinel at this place, of any profile, with any periods for which masters may load their data, at any reading of the clock
abbrev pub OpensAt : Roster → Group → (i : ℕ) → ConfPlan → Type 0
OpensAt roster start i conf =
    (i < size roster)
    × ((profile : Profile) (reboots : List ℕ) (now : ℕ) →
    IsOpened roster i (at_first start i).file now (opened_by (record { conf = conf; place = i; profile = profile; reboots = reboots }) now))

-- files of one Sentinel each open it, and each of the roster's Sentinels is opened by one of them
pub record AreOpening (roster : Roster) (start : Group) (files : List NamedConf) : Type 0 where
  pub opening : All (λ (file : NamedConf). (i : ℕ) × OpensAt roster start i file.conf) files
  pub opened : (i : ℕ) → i < size roster → (file : NamedConf) × Contains files file × OpensAt roster start i file.conf

-- Files of one group, each of which was read, make a start: with their roster, with all its data nodes, and so that each Sentinel's file holds what its
-- own one of these holds. Each of them opens a Sentinel there, and each Sentinel is opened by one of them
abbrev pub OneGroupIsAStart : Type 0
OneGroupIsAStart =
    (files : List NamedConf) →
    All (λ (file : NamedConf). IsSoundConf file.conf) files →
    IsOneGroup (λ (file : NamedConf). file.conf) files →
    (roster : Roster) × (start : Group) × HasDistinctIds roster × IsStart roster start × (length start.stores ≡ node_count roster)
    × All (λ (file : NamedConf). file.conf.roster ≡ roster) files
    × AreOpening roster start files

-- The files differ from each other in data nodes alone, so that the roster has all their lists. Each master begins with the same configuration in all, and there are
-- as many as Sentinels, one for each
pub record IsGroupWithin (roster : Roster) (files : List NamedConf) : Type 0 where
  pub some : 1 ≤ length files
  pub differ : All (λ (file : NamedConf). DifferInNodes file.conf.roster roster) files
  pub alike : All (λ (one : NamedConf). All (λ (other : NamedConf). StartAlike one.conf.kept other.conf.kept) files) files
  pub count : length files ≡ size roster
  pub each : (place : ℕ) → place < size roster → list_any (λ (file : NamedConf). same_id (id_of roster place) file.conf.id) files ≡ true

-- such files make a start too, with the roster that has all lists
abbrev pub OwnListsAreAStart : Type 0
OwnListsAreAStart =
    (files : List NamedConf) (roster : Roster) →
    All (λ (file : NamedConf). IsSoundConf file.conf) files →
    IsGroupWithin roster files →
    (start : Group) × HasDistinctIds roster × IsStart roster start × (length start.stores ≡ node_count roster) × AreOpening roster start files
