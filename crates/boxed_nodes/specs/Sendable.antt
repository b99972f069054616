-- What a node may send, and what it may be given to take.
use Rattle.std.specs.Prelude.{◌<◌, ◌≤◌, ◌^◌, List, length}
use Rattle.std.specs.List.{AllByRecursion}
use Rattle.ballot_law.specs.declared.messages.TheConstants.{SHOWN_MAX}
use Rattle.ballot_law.specs.declared.cards.Shown.{Shown}
use Rattle.ballot_law.specs.declared.events.Event.{Event}
use Rattle.ballot_law.specs.declared.events.Event.TheVariants.{Become, Handed}
use Rattle.ballot_law.specs.declared.messages.Body.{Body}
use Rattle.ballot_law.specs.declared.messages.Body.TheVariants.{PortReply}
use Rattle.ballot_law.specs.declared.messages.Message.{Message}
use Rattle.ballot_law.specs.declared.messages.NodeName.{NodeName}
use Rattle.ballot_law.specs.declared.messages.NodeName.TheVariants.{SentinelAt}
use Rattle.ballot_law.specs.declared.messages.Output.{Output}
use Rattle.ballot_law.specs.declared.messages.Output.TheVariants.{Send, Tell}
use Rattle.ballot_law.specs.Messages.{advertised}
use Rattle.ballot_law.specs.Rosters.{Roster}
use Rattle.node_texts.specs.Messages.MessageTexts.{IsWritable}
use Rattle.sentinel_outbox.specs.Outboxes.{IsOfOther}
use Rattle.ballot_law.specs.Limits.{IsWithinEvent}
use Rattle.ballot_law.specs.Limits.{IsWithinBody, AnswersWithin, ShowsWithin}

-- its numbers are within the limits, the epochs of the votes and configurations that it shows among them, and it has a spelling
pub record IsSendable (message : Message) : Type 0 where
  pub within : IsWithinBody message.body
  pub epochs : AnswersWithin message.body
  pub writable : IsWritable message.body

abbrev pub IsSendableOutput : Output → Type 0
IsSendableOutput (Send message) = IsSendable message
IsSendableOutput (Tell note) = ShowsWithin (Tell note)

-- an answer of the port shows one configuration of each master at most
abbrev pub IsFewIn : Body → Type 0
IsFewIn (PortReply shown text) = length shown ≤ SHOWN_MAX
IsFewIn body = Unit {0}

abbrev pub IsFewShown : Output → Type 0
IsFewShown (Send message) = IsFewIn message.body
IsFewShown (Tell note) = Unit {0}

-- a configuration of a master of the roster
abbrev pub IsOfMaster : Roster → Shown → Type 0
IsOfMaster roster shown = shown.master < length roster.masters

-- each configuration that it advertises is of a master of the roster
abbrev pub IsListedIn : Roster → Body → Type 0
IsListedIn roster body = AllByRecursion (IsOfMaster roster) (advertised roster body)

abbrev pub IsListed : Roster → Output → Type 0
IsListed roster (Send message) = IsListedIn roster message.body
IsListed roster (Tell note) = IsOfMaster roster (record { master = note.master; card = note.card })

-- so is all that a Sentinel holds; of other nodes nothing is asked, since only Sentinels advertise
abbrev pub AreListed : Roster → NodeName → List Output → Type 0
AreListed roster (SentinelAt i) held = AllByRecursion (IsListed roster) held
AreListed roster name held = Unit {0}

-- what a Sentinel holds shows few configurations; what another node holds is messages of such nodes
abbrev pub IsHeldBy : NodeName → List Output → Type 0
IsHeldBy (SentinelAt i) held = AllByRecursion IsFewShown held
IsHeldBy name held = AllByRecursion IsOfOther held

-- what may be taken: an epoch of a command is within the limit, and so are the numbers of a change; what is handed over was sent
abbrev pub IsTakeable : Event → Type 0
IsTakeable (Become priority offset link_down) = (priority < 2 ^ 63) × (offset < 2 ^ 63) × (link_down < 2 ^ 63)
IsTakeable (Handed message) = IsSendable message
IsTakeable event = IsWithinEvent event
