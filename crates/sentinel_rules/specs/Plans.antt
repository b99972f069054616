-- What doesn't change while a Sentinel runs: what its file says, its own place in the roster, by which rules it works, and for how many milliseconds a master
-- may load its data after a restart, by master.
use Rattle.std.specs.Prelude.{ℕ, zero, suc, ◌+◌, Option, None, unwrap_or, List, length, slice_index_or, position}
use Rattle.ballot_law.specs.declared.addresses.Addr.{Addr}
use Rattle.ballot_law.specs.declared.addresses.RunId.{RunId}
use Rattle.ballot_law.specs.declared.messages.NodeName.{NodeName}
use Rattle.ballot_law.specs.declared.messages.NodeName.TheVariants.{StoreAt}
use Rattle.ballot_law.specs.declared.node_places.NodePlace.{NodePlace}
use Rattle.ballot_law.specs.NodePlaces.{first_number, node_numbered}
use Rattle.ballot_law.specs.Orders.{same_addr}
use Rattle.ballot_law.specs.Rosters.{Roster, master_at, id_of, size, no_addr}
use Rattle.sentinel_conf.specs.declared.settings.Settings.{Settings}
use Rattle.sentinel_conf.specs.declared.settings.TheConstants.{DEFAULT_SETTINGS}
use Rattle.sentinel_conf.specs.Meaning.{ConfPlan}
use Rattle.sentinel_rules.specs.declared.profiles.Profile.{Profile}

pub record Plan : Type 0 where
  pub conf : ConfPlan
  pub place : ℕ
  pub profile : Profile
  pub reboots : List ℕ

abbrev pub roster_of : Plan → Roster
roster_of plan = plan.conf.roster

-- the own run id
abbrev pub me : Plan → RunId
me plan = id_of (roster_of plan) plan.place

-- how many Sentinels there are, this one among them
abbrev pub group_size : Plan → ℕ
group_size plan = size (roster_of plan)

abbrev pub master_count : Plan → ℕ
master_count plan = length (roster_of plan).masters

abbrev pub settings_at : Plan → (m : ℕ) → Settings
settings_at plan m = slice_index_or plan.conf.settings m DEFAULT_SETTINGS

-- for how long a master may load its data after a restart; 0 is for ever
abbrev pub reboot_ms : Plan → (m : ℕ) → ℕ
reboot_ms plan m = slice_index_or plan.reboots m 0

-- the data nodes of a master, by address
abbrev pub nodes_of : Plan → (m : ℕ) → List Addr
nodes_of plan m = (master_at (roster_of plan) m).nodes

abbrev pub addr_at : Plan → (m k : ℕ) → Addr
addr_at plan m k = slice_index_or (nodes_of plan m) k no_addr

-- the place of an address among a master's nodes; their number where it is none of them
abbrev pub node_place : Plan → (m : ℕ) → Addr → ℕ
node_place plan m addr = unwrap_or (position (same_addr addr) (nodes_of plan m)) (length (nodes_of plan m))

abbrev pub node_name : Plan → (m k : ℕ) → NodeName
node_name plan m k = StoreAt (first_number (roster_of plan).masters m + k)

-- the data node with this name
abbrev pub node_named : Plan → NodeName → Option NodePlace
node_named plan (StoreAt number) = node_numbered (roster_of plan).masters 0 number
node_named plan _ = None
