-- What messages show, and what they become at the node that they reach.
use Rattle.std.specs.Prelude.{◌≡◌, ℕ, Option, Some, None, List, [], ◌∷◌, ◌++◌}
use Rattle.ballot_law.specs.declared.addresses.RunId.{RunId}
use Rattle.ballot_law.specs.declared.cards.Shown.{Shown}
use Rattle.ballot_law.specs.declared.commands.Command.TheVariants.{IsMasterDownByAddr, GetMasterAddrByName, Ping as AskPing}
use Rattle.ballot_law.specs.declared.events.Event.{Event}
use Rattle.ballot_law.specs.declared.events.Event.TheVariants.{Command, Answered, Pinged, InfoRead, HelloRead, Handed}
use Rattle.ballot_law.specs.declared.messages.Body.{Body}
use Rattle.ballot_law.specs.declared.messages.Body.TheVariants.{Ask, Answer, Ping, PingText, InfoText, Publish, HelloText, AddressAsk, AddressAnswer, PortReply}
use Rattle.ballot_law.specs.declared.messages.Message.{Message}
use Rattle.ballot_law.specs.declared.messages.NodeName.{NodeName}
use Rattle.ballot_law.specs.declared.messages.NodeName.TheVariants.{SentinelAt}
use Rattle.ballot_law.specs.declared.messages.Output.{Output}
use Rattle.ballot_law.specs.declared.messages.Output.TheVariants.{Send, Tell}
use Rattle.ballot_law.specs.declared.replies.Hello.{Hello}
use Rattle.ballot_law.specs.declared.replies.PingReply.{PingReply}
use Rattle.ballot_law.specs.Rosters.{Roster, master_named}
use Rattle.ballot_law.specs.Hellos.{hello_text}

-- the voter's place, the master's number, the epoch, and the run id of the Sentinel voted for
pub record Vote : Type 0 where
  pub voter : ℕ
  pub master : ℕ
  pub epoch : ℕ
  pub candidate : RunId

-- What a message shows

-- the vote that an answer of this sender shows: one with a leader shows it
abbrev pub vote_shown : NodeName → Body → Option Vote
vote_shown (SentinelAt v) (Answer m addr down (Some c) e) = Some (record { voter = v; master = m; epoch = e; candidate = c })
vote_shown _ _ = None

abbrev pub published : Body → Option Hello
published (Publish hello) = Some hello
published _ = None

-- the published hello that a data node passes on
abbrev pub passed_on : Body → Option Hello
passed_on (HelloText hello) = Some hello
passed_on _ = None

-- a hello shows its card of the master that it names; one that names no master of the roster shows nothing
abbrev pub shown_by : Roster → Hello → List Shown
shown_by roster hello =
    elim (master_named roster hello.master) [ None ↦ [] | Some m ↦ (record { master = m; card = hello.card }) ∷ [] ]

-- the configurations that a message advertises: published hellos, and a Sentinel's answers to clients
abbrev pub advertised : Roster → Body → List Shown
advertised roster (Publish hello) = shown_by roster hello
advertised roster (AddressAnswer (Some shown)) = shown ∷ []
advertised roster (PortReply shown text) = shown
advertised roster _ = []

-- the messages among outputs
abbrev pub sent : List Output → List Message
sent [] = []
sent (Send message ∷ outputs) = message ∷ sent outputs
sent (Tell note ∷ outputs) = sent outputs

-- the configurations that outputs advertise, in order; a note advertises its own
abbrev pub advertised_by : Roster → List Output → List Shown
advertised_by roster [] = []
advertised_by roster (Send message ∷ outputs) = advertised roster message.body ++ advertised_by roster outputs
advertised_by roster (Tell note ∷ outputs) = (record { master = note.master; card = note.card }) ∷ advertised_by roster outputs

-- What a message becomes

-- at a Sentinel: questions are commands, a hello comes as its bytes; how a PING's answer counts and the bytes of an INFO
-- aren't tied to the message
abbrev pub heard_as : PingReply → (info : List ℕ) → Message → NodeName → Body → Event
heard_as reply info message sender (Ask m addr e candidate) = Command sender (IsMasterDownByAddr addr e candidate)
heard_as reply info message sender (Answer m addr down leader e) = Answered sender m addr down leader e
heard_as reply info message sender Ping = Command sender AskPing
heard_as reply info message sender (PingText is_error text) = Pinged sender reply
heard_as reply info message sender (InfoText told) = InfoRead sender info
heard_as reply info message sender (HelloText hello) = HelloRead (hello_text hello)
heard_as reply info message sender (AddressAsk name) = Command sender (GetMasterAddrByName (Some name))
heard_as reply info message sender _ = Handed message

-- other nodes are handed the message itself
abbrev pub event_at : NodeName → PingReply → (info : List ℕ) → Message → Event
event_at (SentinelAt i) reply info message = heard_as reply info message message.sender message.body
event_at _ reply info message = Handed message

-- what a Sentinel takes; any other body is for data nodes and clients
abbrev pub IsForSentinels : Body → Type 0
IsForSentinels (Ask m addr e candidate) = Unit {0}
IsForSentinels (Answer m addr down leader e) = Unit {0}
IsForSentinels Ping = Unit {0}
IsForSentinels (PingText is_error text) = Unit {0}
IsForSentinels (InfoText told) = Unit {0}
IsForSentinels (HelloText hello) = Unit {0}
IsForSentinels (AddressAsk name) = Unit {0}
IsForSentinels _ = ⊥

abbrev pub IsFor : NodeName → Body → Type 0
IsFor (SentinelAt i) body = IsForSentinels body
IsFor _ body = Unit {0}

-- the message becomes this event at its target
pub record Delivers (message : Message) (event : Event) : Type 0 where
  pub reply : PingReply
  pub info : List ℕ
  pub is_event : event ≡ event_at message.target reply info message

-- What an event shows

-- the vote of a Sentinel that an event tells of
abbrev pub vote_heard : Event → Option Vote
vote_heard (Answered (SentinelAt v) m addr down (Some c) e) = Some (record { voter = v; master = m; epoch = e; candidate = c })
vote_heard _ = None

-- the bytes of a hello
abbrev pub text_read : Event → Option (List ℕ)
text_read (HelloRead text) = Some text
text_read _ = None

-- the hello that a data node is handed for its channel
abbrev pub hello_handed : Event → Option Hello
hello_handed (Handed message) = published message.body
hello_handed _ = None
