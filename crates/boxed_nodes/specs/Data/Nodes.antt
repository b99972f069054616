-- A data node as its callers see it, and where it stands in a roster.
use Rattle.std.specs.Prelude.{◌≡◌, ℕ, if◌then◌else◌, Option, Some, None, length}
use Rattle.std.specs.Option.{option_map}
use Rattle.ballot_law.specs.declared.addresses.Addr.{Addr}
use Rattle.ballot_law.specs.Ballots.{card_of}
use Rattle.ballot_law.specs.Orders.{same_addr}
use Rattle.ballot_law.specs.Rosters.{Roster}
use Rattle.boxed_nodes.specs.declared.turn.Turn.{Turn}
use Rattle.boxed_nodes.specs.declared.turn.Turn.TheVariants.{Ready}
use Rattle.sentinel_conf.specs.Meaning.{ConfPlan}
use Rattle.sentinel_outbox.specs.declared.room.Room.{Room}
use Rattle.ballot_law.specs.declared.node_places.NodePlace.{NodePlace}
use Rattle.ballot_law.specs.NodePlaces.{addr_in, node_numbered}
use Rattle.boxed_nodes.specs.Data.Servers.{Server, first_server}

-- its number among all data nodes, its address, how many Sentinels there are, what it keeps, and how far its last input has come
pub record DataPlan : Type 0 where
  pub number : ℕ
  pub addr : Addr
  pub sentinels : ℕ
  pub server : Server
  pub turn : Turn

-- the address of the data node with this number, where there is one
abbrev pub addr_numbered : Roster → ℕ → Option Addr
addr_numbered roster number = option_map (addr_in roster) (node_numbered roster.masters 0 number)

-- whom a node follows at first: the master of its configuration, or nobody where it is that itself
abbrev pub first_followed : Addr → Addr → Option Addr
first_followed addr master = if same_addr addr master then None else Some master

abbrev pub fresh_node : ConfPlan → (number : ℕ) → NodePlace → DataPlan
fresh_node conf number at =
    record {
      number = number;
      addr = addr_in conf.roster at;
      sentinels = length conf.roster.sentinels;
      server = first_server number (first_followed (addr_in conf.roster at) (card_of conf.kept at.master).addr);
      turn = Ready;
    }

-- the data node with this number as it begins, where there is one
abbrev pub node_of : ConfPlan → (number : ℕ) → Option DataPlan
node_of conf number = option_map (fresh_node conf number) (node_numbered conf.roster.masters 0 number)

-- a hello goes to each Sentinel, and no input gives more
abbrev pub room_of : DataPlan → Room
room_of node = record { outputs = node.sentinels; text = 0; shown = 0 }

-- all but how far its last input has come is as it was
abbrev pub IsSameNode : DataPlan → DataPlan → Type 0
IsSameNode old new = new ≡ record old { turn = new.turn }

-- the roster has the node, and as many Sentinels as it passes hellos to
pub record IsIn (node : DataPlan) (roster : Roster) : Type 0 where
  pub addr : addr_numbered roster node.number ≡ Some node.addr
  pub sentinels : length roster.sentinels ≡ node.sentinels
