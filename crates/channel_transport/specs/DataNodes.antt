-- The data nodes of a group, and what an order makes of one.
use Rattle.std.specs.Prelude.{◌≡◌, ◌≢◌, ℕ, ◌⊎◌, List, [], ◌∷◌, Option, Some, None, length, slice_get}
use Rattle.ballot_law.specs.declared.addresses.Addr.{Addr}
use Rattle.ballot_law.specs.declared.messages.Body.{Body}
use Rattle.ballot_law.specs.declared.messages.Body.TheVariants.{InfoAsk, InfoText, ReplicaOf}
use Rattle.ballot_law.specs.declared.messages.Message.{Message}
use Rattle.ballot_law.specs.declared.messages.NodeName.TheVariants.{StoreAt, PortAt}
use Rattle.ballot_law.specs.declared.messages.Output.{Output}
use Rattle.ballot_law.specs.declared.messages.Output.TheVariants.{Send, Tell}
use Rattle.ballot_law.specs.declared.replies.Info.{Info}
use Rattle.ballot_law.specs.NodePlaces.{node_count}
use Rattle.ballot_law.specs.declared.steps.KeptText.TheVariants.{Old}
use Rattle.boxed_nodes.specs.Moves.{Stays, Stops, Starts}
use Rattle.boxed_nodes.specs.Turns.{shown_at}
use Rattle.boxed_nodes.specs.Data.Nodes.{DataPlan, IsSameNode, node_of}
use Rattle.boxed_nodes.specs.Data.Servers.{changed_by, info_of}
use Rattle.sentinel_conf.specs.Meaning.{ConfPlan}
use Rattle.channel_transport.specs.declared.node_orders.Action.{Action}
use Rattle.channel_transport.specs.declared.node_orders.Action.TheVariants.{Take, Stop, Start}

-- one for each data node of the roster, by its number, as it begins
pub record AreNodesOf (conf : ConfPlan) (nodes : List DataPlan) : Type 0 where
  pub count : length nodes ≡ node_count conf.roster
  pub each : (number : ℕ) → slice_get nodes number ≡ node_of conf number

-- a node that takes an event keeps what the event makes of it, or is as it was where it is stopped or memory was refused; a stop and a start leave all
-- that it keeps
abbrev pub Obeys : Action → DataPlan → DataPlan → Type 0
Obeys (Take event) old new = (new ≡ old) ⊎ ((new.number ≡ old.number) × (new.server ≡ changed_by event old.server))
Obeys Stop old new = IsSameNode old new × Stops Old (shown_at old.turn) (shown_at new.turn)
Obeys Start old new = IsSameNode old new × (Starts (shown_at old.turn) (shown_at new.turn) ⊎ Stays (shown_at old.turn) (shown_at new.turn))

-- the node with this number obeys, where there is one, and the others are as they were
pub record ObeysAt (number : ℕ) (action : Action) (old new : List DataPlan) : Type 0 where
  pub count : length new ≡ length old
  pub one : (before after : DataPlan) → slice_get old number ≡ Some before → slice_get new number ≡ Some after → Obeys action before after
  pub others : (k : ℕ) → k ≢ number → slice_get new k ≡ slice_get old k

-- ---- what a client of a node asks of it

-- REPLICAOF of a client, which is somebody at a port
abbrev pub client_order : (number : ℕ) → Option Addr → Message
client_order number follows = record { sender = PortAt 0; target = StoreAt number; body = ReplicaOf follows }

-- INFO of such a client
abbrev pub client_question : (number : ℕ) → Message
client_question number = record { sender = PortAt 0; target = StoreAt number; body = InfoAsk }

-- what the first output says of a node, where it is an INFO
abbrev pub info_in : Body → Option Info
info_in (InfoText info) = Some info
info_in body = None

abbrev pub info_said : Output → Option Info
info_said (Send message) = info_in message.body
info_said (Tell note) = None

abbrev pub first_info : List Output → Option Info
first_info [] = None
first_info (output ∷ outputs) = info_said output

-- what the node with this number keeps
abbrev pub ShownBy : List DataPlan → (number : ℕ) → Info → Type 0
ShownBy nodes number info = (node : DataPlan) × (slice_get nodes number ≡ Some node) × (info ≡ info_of node.server)
