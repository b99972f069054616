-- What a message becomes at its target.
use Rattle.std.specs.Prelude.{Option, Some, None}
use Rattle.ballot_law.specs.declared.commands.Command.TheVariants.{IsMasterDownByAddr, GetMasterAddrByName, Ping as AskPing}
use Rattle.ballot_law.specs.declared.events.Event.{Event}
use Rattle.ballot_law.specs.declared.events.Event.TheVariants.{Command, Answered, Pinged, InfoRead, HelloRead, Handed}
use Rattle.ballot_law.specs.declared.messages.Body.{Body}
use Rattle.ballot_law.specs.declared.messages.Body.TheVariants.{Ask, Answer, Ping, PingText, InfoText, HelloText, AddressAsk}
use Rattle.ballot_law.specs.declared.messages.Message.{Message}
use Rattle.ballot_law.specs.declared.messages.NodeName.{NodeName}
use Rattle.ballot_law.specs.declared.messages.NodeName.TheVariants.{SentinelAt}
use Rattle.ballot_law.specs.Hellos.{hello_text}
use Rattle.ballot_law.specs.PingReplies.{reply_of}
use Rattle.node_texts.specs.Infos.{info_text}

-- at a Sentinel: an ask, a client's question and a PING are commands, an answer to PING is what it counts as, an INFO and a
-- hello are their bytes; a Sentinel takes no other body
abbrev pub heard : (sender : NodeName) → Body → Option Event
heard sender (Ask master addr epoch candidate) = Some (Command sender (IsMasterDownByAddr addr epoch candidate))
heard sender (Answer master addr down leader epoch) = Some (Answered sender master addr down leader epoch)
heard sender Ping = Some (Command sender AskPing)
heard sender (PingText is_error text) = Some (Pinged sender (reply_of is_error text))
heard sender (InfoText info) = Some (InfoRead sender (info_text info))
heard sender (HelloText hello) = Some (HelloRead (hello_text hello))
heard sender (AddressAsk name) = Some (Command sender (GetMasterAddrByName (Some name)))
heard sender _ = None

-- a data node and a client are handed the message itself
abbrev pub event_at : (target : NodeName) → Message → Option Event
event_at (SentinelAt i) message = heard message.sender message.body
event_at _ message = Some (Handed message)

abbrev pub event_of : Message → Option Event
event_of message = event_at message.target message
