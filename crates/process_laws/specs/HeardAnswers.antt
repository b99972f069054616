-- An answer that was delivered over a connection is one that the process which asked may hear.
use Rattle.std.specs.Prelude.{ℕ, List, ◌++◌, Contains}
use Rattle.ballot_law.specs.declared.events.Event.{Event}
use Rattle.ballot_law.specs.declared.messages.Body.{Body}
use Rattle.ballot_law.specs.declared.messages.Body.TheVariants.{Ask, Answer}
use Rattle.ballot_law.specs.declared.messages.Message.{Message}
use Rattle.ballot_law.specs.declared.messages.NodeName.TheVariants.{SentinelAt}
use Rattle.ballot_law.specs.declared.steps.KeptText.{KeptText}
use Rattle.resp2.specs.Commands.{IsCandidate}
use Rattle.sentinel_cell.specs.declared.view.View.{View}
use Rattle.sentinel_cell.specs.Histories.{World, replay}
use Rattle.sentinel_rules.specs.Plans.{Plan}
use Rattle.process_laws.specs.Actions.{Took, sent_by, IsHeard}
use Rattle.process_laws.specs.Connections.{IsAskable, IsAlone, IsListed, IsDelivered, answer_body}

-- at the Sentinel that is asked, the address of a question is in the list of the question's master alone
abbrev pub IsOfOneMaster : Plan → (question : Body) → Type 0
IsOfOneMaster plan (Ask m addr epoch candidate) = IsAlone plan m addr
IsOfOneMaster plan question = Unit {0}

-- it is in the list of the question's master, and may be in others
abbrev pub IsOfItsMaster : Plan → (question : Body) → Type 0
IsOfItsMaster plan (Ask m addr epoch candidate) = IsListed plan m addr
IsOfItsMaster plan question = Unit {0}

-- a run id that an answer tells of is one, as every value of its type is
abbrev pub TellsOfRunId : (answer : Body) → Type 0
TellsOfRunId (Answer n addr down leader voted) = IsCandidate leader
TellsOfRunId answer = Unit {0}

-- Where the messages have those of the entry that released the answer, as its process's action with the Sentinel that asked, the event is heard as the laws of processes
-- ask it, whatever its plan
abbrev pub AnswersAreHeard : Type 0
AnswersAreHeard =
    (start : World) (i : ℕ) (v w : View) (question : Body) (event : Event) (d : IsDelivered start (SentinelAt i) v question event w) (left : KeptText)
    (plan : Plan) (stores : ℕ) (messages : List Message)
    → IsAskable question → IsOfOneMaster start.plan question → TellsOfRunId (answer_body (replay start (v.front ++ d.between)) d.now d.command)
    → ((message : Message) → Contains (sent_by (Took start.plan.place d.entry (SentinelAt i) left)) message → Contains messages message)
    → IsHeard plan stores messages i event
