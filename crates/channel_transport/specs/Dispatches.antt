-- Where a message goes, and as what.
use Rattle.std.specs.Prelude.{ℕ, Option, Some, None}
use Rattle.ballot_law.specs.declared.events.Event.{Event}
use Rattle.ballot_law.specs.declared.events.Event.TheVariants.{Become, Handed}
use Rattle.ballot_law.specs.declared.messages.Message.{Message}
use Rattle.ballot_law.specs.declared.messages.NodeName.{NodeName}
use Rattle.ballot_law.specs.declared.messages.NodeName.TheVariants.{SentinelAt, StoreAt, ClientAt, PortAt}
use Rattle.node_texts.specs.Messages.Deliveries.{heard}
use Rattle.channel_transport.specs.declared.dispatch.Dispatch.{Dispatch}
use Rattle.channel_transport.specs.declared.dispatch.Dispatch.TheVariants.{ToSentinel, ToNode}
use Rattle.channel_transport.specs.declared.node_orders.Action.TheVariants.{Take, Stop, Start}
use Rattle.channel_transport.specs.declared.node_orders.NodeOrder.{NodeOrder}

-- the orders of a data node
abbrev pub taking : (number : ℕ) → Event → NodeOrder
taking number event = record { number = number; action = Take event }

abbrev pub becoming : (number priority offset link_down : ℕ) → NodeOrder
becoming number priority offset link_down = taking number (Become priority offset link_down)

abbrev pub stopping : (number : ℕ) → NodeOrder
stopping number = record { number = number; action = Stop }

abbrev pub starting : (number : ℕ) → NodeOrder
starting number = record { number = number; action = Start }

abbrev pub to_sentinel : (place : ℕ) → Option Event → Option Dispatch
to_sentinel place None = None
to_sentinel place (Some event) = Some (ToSentinel place event)

-- a Sentinel gets the event that the message is there, where there is one, and a data node the message itself; a client, and whoever asked at a port,
-- isn't reached by a link
abbrev pub dispatched_to : NodeName → Message → Option Dispatch
dispatched_to (SentinelAt place) message = to_sentinel place (heard message.sender message.body)
dispatched_to (StoreAt number) message = Some (ToNode (taking number (Handed message)))
dispatched_to (ClientAt client) message = None
dispatched_to (PortAt port) message = None

abbrev pub dispatched : Message → Option Dispatch
dispatched message = dispatched_to message.target message
