-- Which numbers may stand in a command, an event, a message and an output.
use Rattle.std.specs.Prelude.{ℕ, ◌≤◌, IfSome}
use Rattle.std.specs.List.{AllByRecursion}
use Rattle.ballot_law.specs.declared.cards.Shown.{Shown}
use Rattle.ballot_law.specs.declared.cards.TheConstants.{MAX_EPOCH}
use Rattle.ballot_law.specs.declared.commands.Command.{Command}
use Rattle.ballot_law.specs.declared.commands.Command.TheVariants.{IsMasterDownByAddr}
use Rattle.ballot_law.specs.declared.events.Event.{Event}
use Rattle.ballot_law.specs.declared.events.Event.TheVariants.{Command as Commanded}
use Rattle.ballot_law.specs.declared.messages.Body.{Body}
use Rattle.ballot_law.specs.declared.messages.Body.TheVariants.{Ask, Answer, Publish, HelloText, AddressAnswer, PortReply}
use Rattle.ballot_law.specs.declared.messages.Output.{Output}
use Rattle.ballot_law.specs.declared.messages.Output.TheVariants.{Send, Tell}
use Rattle.ballot_law.specs.Hellos.{IsHello}

-- the epoch of a command is in range
abbrev pub IsWithin : Command → Type 0
IsWithin (IsMasterDownByAddr addr epoch candidate) = epoch ≤ MAX_EPOCH
IsWithin _ = Unit {0}

-- the epoch of a command is in range
abbrev pub IsWithinEvent : Event → Type 0
IsWithinEvent (Commanded sender command) = IsWithin command
IsWithinEvent _ = Unit {0}

-- the epoch of a question is in range, and so is all that a hello shows
abbrev pub IsWithinBody : Body → Type 0
IsWithinBody (Ask master addr epoch candidate) = epoch ≤ MAX_EPOCH
IsWithinBody (Publish hello) = IsHello hello
IsWithinBody (HelloText hello) = IsHello hello
IsWithinBody body = Unit {0}

abbrev pub IsWithinOutput : Output → Type 0
IsWithinOutput (Send message) = IsWithinBody message.body
IsWithinOutput (Tell note) = Unit {0}

-- the epoch of a configuration that is shown is in range
abbrev pub HasEpochWithin : Shown → Type 0
HasEpochWithin shown = shown.card.epoch ≤ MAX_EPOCH

-- so is that of each vote and of each configuration of an answer
abbrev pub AnswersWithin : Body → Type 0
AnswersWithin (Answer master addr down leader epoch) = epoch ≤ MAX_EPOCH
AnswersWithin (AddressAnswer shown) = IfSome shown HasEpochWithin
AnswersWithin (PortReply shown text) = AllByRecursion HasEpochWithin shown
AnswersWithin body = Unit {0}

abbrev pub ShowsWithin : Output → Type 0
ShowsWithin (Send message) = AnswersWithin message.body
ShowsWithin (Tell note) = note.card.epoch ≤ MAX_EPOCH
