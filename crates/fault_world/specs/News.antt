-- What a step adds to the elections and to what was said, as a report tells it.
use Rattle.std.specs.Prelude.{◌<◌, List, [], ◌++◌, map}
use Rattle.ballot_law.specs.declared.messages.NodeName.{NodeName}
use Rattle.ballot_law.specs.declared.messages.NodeName.TheVariants.{SentinelAt}
use Rattle.ballot_law.specs.declared.messages.Output.{Output}
use Rattle.ballot_law.specs.declared.records.Election.{Election}
use Rattle.ballot_law.specs.declared.records.Advertisement.{Advertisement}
use Rattle.ballot_law.specs.declared.records.Win.{Win}
use Rattle.ballot_law.specs.Messages.{advertised_by}
use Rattle.ballot_law.specs.Rosters.{Roster, size}
use Rattle.ballot_law.specs.Worlds.{elected_by, said_by}
use Rattle.fault_world.specs.declared.entry.Entry.{Entry}
use Rattle.fault_world.specs.Told.{entry_of_election, entry_of_said}

-- elections and advertisements, an entry for each, in their order
abbrev pub news_of : Roster → List Election → List Advertisement → List Entry
news_of roster elected said = map (entry_of_election roster) elected ++ map (entry_of_said roster) said

-- the elections that a node told of, and what it advertises by outputs that it releases
abbrev pub elected_told : NodeName → List Win → List Election
elected_told (SentinelAt i) wins = elected_by i wins
elected_told name wins = []

abbrev pub said_told : Roster → NodeName → List Output → List Advertisement
said_told roster (SentinelAt i) outputs = said_by i (advertised_by roster outputs)
said_told roster name outputs = []

-- a Sentinel of the roster, or another node
abbrev pub IsInGroup : Roster → NodeName → Type 0
IsInGroup roster (SentinelAt i) = i < size roster
IsInGroup roster name = Unit {0}
