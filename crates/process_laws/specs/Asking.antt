-- What a Sentinel releases to another one.
use Rattle.std.specs.Prelude.{◌≡◌, ℕ, Contains}
use Rattle.ballot_law.specs.declared.events.Event.{Event}
use Rattle.ballot_law.specs.declared.events.Event.TheVariants.{Command}
use Rattle.ballot_law.specs.declared.messages.Message.{Message}
use Rattle.ballot_law.specs.declared.messages.NodeName.TheVariants.{SentinelAt}
use Rattle.ballot_law.specs.declared.messages.Output.TheVariants.{Send}
use Rattle.sentinel_cell.specs.declared.entry.Entry.{Entry}
use Rattle.sentinel_cell.specs.Histories.{World, IsGood, IsStep}
use Rattle.process_laws.specs.Connections.{IsAskable}
use Rattle.process_laws.specs.HeardAnswers.{IsOfItsMaster}

-- it is no command of another Sentinel: those come over ports, and so in a port's name
abbrev pub IsFromNoSentinel : Event → Type 0
IsFromNoSentinel (Command (SentinelAt place) command) = ⊥
IsFromNoSentinel _ = Unit {0}

-- what an entry puts out to a Sentinel is what law_connected_processes_are_safe has asked on a connection: PING, or a question about a master, with an address that the own
-- list has
abbrev pub ReleasedWordsAreAskable : Type 0
ReleasedWordsAreAskable =
    (w : World) (entry : Entry) (message : Message) (k : ℕ) → IsGood w → IsStep w entry → IsFromNoSentinel entry.input.event → Contains entry.outputs (Send message)
    → message.target ≡ SentinelAt k → IsAskable message.body × IsOfItsMaster w.plan message.body
