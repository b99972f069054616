-- What two pieces in a row tell.
use Rattle.std.specs.Prelude.{ℕ, Bool, List, ◌++◌, Result}
use Rattle.ballot_law.specs.declared.events.Event.{Event}
use Rattle.ballot_law.specs.declared.messages.NodeName.{NodeName}
use Rattle.links.specs.declared.sessions.fault.LinkFault.{LinkFault}
use Rattle.links.specs.declared.sessions.questions.Question.{Question}
use Rattle.links.specs.Sessions.Links.{IsHeard, Receives}

-- a piece that was heard, and one after it with whatever end, are one piece with that end
abbrev pub PiecesJoin : Type 0
PiecesJoin =
    (node : NodeName) (listens : Bool) (asked middle left : List Question) (stream piece held later : List ℕ) (events more : List Event) (result : Result (Unit {0}) LinkFault)
    → IsHeard node listens asked stream events middle held → Receives node listens middle (held ++ piece) result more left later
    → Receives node listens asked (stream ++ piece) result (events ++ more) left later
