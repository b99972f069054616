-- A client as its callers see it.
use Rattle.std.specs.Prelude.{◌≡◌, ℕ, false}
use Rattle.ballot_law.specs.Rosters.{Roster, master_at}
use Rattle.client_queries.specs.declared.moves.Move.TheVariants.{Ask}
use Rattle.client_queries.specs.Queries.{query}
use Rattle.boxed_nodes.specs.declared.turn.Turn.{Turn}
use Rattle.boxed_nodes.specs.declared.turn.Turn.TheVariants.{Ready}
use Rattle.sentinel_outbox.specs.declared.room.Room.{Room}
use Rattle.boxed_nodes.specs.Clients.Searches.{Search, Group, sentinel_addrs, store_addrs}

-- its number, the nodes that it may ask, its search, and how far its last input has come
pub record ClientPlan : Type 0 where
  pub number : ℕ
  pub group : Group
  pub search : Search
  pub turn : Turn

-- one question at a time
abbrev pub room_of_client : Room
room_of_client = record { outputs = 1; text = 0; shown = 0 }

-- all but how far its last input has come is as it was
abbrev pub IsSameClient : ClientPlan → ClientPlan → Type 0
IsSameClient old new = new ≡ record old { turn = new.turn }

-- a client of this group that searches for the master with this number: it begins with the first Sentinel of the roster
abbrev pub fresh_client : Roster → (number master : ℕ) → ClientPlan
fresh_client roster number master =
    record {
      number = number;
      group = record { sentinels = sentinel_addrs roster; stores = store_addrs roster; master = (master_at roster master).name };
      search = record { query = query (sentinel_addrs roster) (Ask 0); outstanding = false };
      turn = Ready;
    }
