-- The two ends of one connection: a link that asks, and the session of another Sentinel's port that answers.
use Rattle.std.specs.Prelude.{◌≡◌, ℕ, ◌<◌, Bool, true, Contains, ◌≤◌, ◌++◌, ◌∷◌, List, [], map, false, Option, None, Some}
use Rattle.std.specs.List.{flat_map, list_any, AllByRecursion}
use Rattle.ballot_law.specs.declared.addresses.Addr.{Addr}
use Rattle.ballot_law.specs.declared.addresses.RunId.{RunId}
use Rattle.ballot_law.specs.Orders.{same_addr}
use Rattle.ballot_law.specs.declared.cards.TheConstants.{MAX_EPOCH}
use Rattle.ballot_law.specs.declared.commands.Command.{Command}
use Rattle.ballot_law.specs.declared.commands.Command.TheVariants.{IsMasterDownByAddr}
use Rattle.ballot_law.specs.declared.events.Event.{Event}
use Rattle.ballot_law.specs.declared.events.Event.TheVariants.{Command as Commanded}
use Rattle.ballot_law.specs.declared.messages.Body.{Body}
use Rattle.ballot_law.specs.declared.messages.Body.TheVariants.{Ask, Answer, Ping}
use Rattle.ballot_law.specs.declared.messages.Message.{Message}
use Rattle.ballot_law.specs.declared.messages.NodeName.{NodeName}
use Rattle.ballot_law.specs.declared.messages.NodeName.TheVariants.{SentinelAt, PortAt}
use Rattle.ballot_law.specs.declared.messages.Output.TheVariants.{Send}
use Rattle.ballot_law.specs.Ballots.{Parts as BallotParts}
use Rattle.ballot_law.specs.Clocks.{clock}
use Rattle.ballot_law.specs.Rosters.{Roster}
use Rattle.ballot_law.specs.Worlds.{IsRight}
use Rattle.ballot_law.specs.Hellos.{IsAddr}
use Rattle.node_texts.specs.Messages.Deliveries.{heard}
use Rattle.node_texts.specs.Messages.MessageTexts.{message_bytes}
use Rattle.resp2.specs.Commands.{command_of, IsCandidate}
use Rattle.resp2.specs.Framing.Frame.{Frame}
use Rattle.resp2.specs.Framing.Stream.{Parts}
use Rattle.sentinel_cell.specs.declared.entry.Entry.{Entry}
use Rattle.sentinel_cell.specs.declared.entry.Outcome.TheVariants.{Stored}
use Rattle.sentinel_cell.specs.declared.view.View.{View}
use Rattle.sentinel_cell.specs.Histories.{World, IsGood, IsLegal, replay}
use Rattle.sentinel_rules.specs.Plans.{Plan, nodes_of, master_count}
use Rattle.sentinel_rules.specs.States.{Core}
use Rattle.sentinel_rules.specs.Answers.{commanded}
use Rattle.sentinel_rules.specs.Takes.{next, cleared}
use Rattle.port_sessions.specs.Talks.{asked, Party, Responds}
use Rattle.links.specs.declared.sessions.questions.Question.{Question}
use Rattle.links.specs.Sessions.Links.{question_of, Tells}
use Rattle.resp2.specs.Long.LongValues.{LongParts}

-- what is asked of another Sentinel: a PING, and whether a master is down
abbrev pub IsAskable : Body → Type 0
IsAskable Ping = Unit {0}
IsAskable (Ask master addr epoch candidate) = IsAddr addr × (epoch ≤ MAX_EPOCH) × IsCandidate candidate
IsAskable _ = ⊥

-- the answers to these values, in their order, each at a reading of the clock of its own
abbrev pub Served : World → Party → List Frame → List ℕ → Party → Type 0
Served start p [] bytes q = (bytes ≡ []) × (q ≡ p)
Served start p (value ∷ values) bytes q =
    (now : ℕ) × (middle : Party) × (first : List ℕ) × (rest : List ℕ)
    × (bytes ≡ first ++ rest) × Responds start now p (command_of value) first middle × Served start middle values rest q

-- what a Sentinel's answer to a command says
abbrev pub answer_body : World → (now : ℕ) → Command → Body
answer_body w now command = (commanded w.plan (clock now) command (cleared w.core)).body

-- the answer as the port's session gets it
abbrev pub port_answer : World → (now : ℕ) → Command → Message
port_answer w now command = record { sender = SentinelAt w.plan.place; target = PortAt 0; body = answer_body w now command }

-- the answer is about the master of the question, and tells of a run id as every value of its type is one
abbrev pub Fits : (question answer : Body) → Type 0
Fits (Ask m addr epoch candidate) (Answer n other down leader voted) = (n ≡ m) × IsCandidate leader
Fits question answer = Unit {0}

-- The event is the delivery of the answer that the Sentinel released in the last entry of its history. That entry took the command that a delivery of the question is
pub record IsDelivered (start : World) (asker : NodeName) (v : View) (question : Body) (event : Event) (w : View) : Type 0 where
  pub now : ℕ
  pub command : Command
  pub delivered : heard asker question ≡ Some (Commanded asker command)
  pub between : List Entry
  pub entry : Entry
  pub front : w.front ≡ (v.front ++ between) ++ entry ∷ []
  pub legal : IsLegal start w.front
  pub input : entry.input ≡ asked now command
  pub outcome : entry.outcome ≡ Stored
  pub released : entry.outputs ≡ Send (port_answer (replay start (v.front ++ between)) now command) ∷ []
  pub is_event : (let answer = answer_body (replay start (v.front ++ between)) now command in Fits question answer → heard (SentinelAt start.plan.place) answer ≡ Some event)

-- each event is the delivery of the answer to the question at its place
abbrev pub AreDelivered : World → NodeName → View → List Body → List Event → Type 0
AreDelivered start asker v questions [] = Unit {0}
AreDelivered start asker v [] (event ∷ events) = ⊥
AreDelivered start asker v (question ∷ questions) (event ∷ events) = (w : View) × IsDelivered start asker v question event w × AreDelivered start asker w questions events

-- The link asked these questions; the port got a first part of their bytes, and served the values in it; the link got a first part of the bytes that were put out, and
-- heard the values in it
pub record IsConnected (start : World) (p : Party) (questions : List Body) (events : List Event) : Type 0 where
  pub askable : AllByRecursion IsAskable questions
  pub silent : p.listens ≡ None
  pub got : List ℕ
  pub not_yet_got : List ℕ
  pub sent : flat_map message_bytes questions ≡ got ++ not_yet_got
  pub values : List Frame
  pub unread : List ℕ
  pub parts : Parts got values unread
  pub bytes : List ℕ
  pub q : Party
  pub served : Served start p values bytes q
  pub came : List ℕ
  pub not_yet_come : List ℕ
  pub put_out : bytes ≡ came ++ not_yet_come
  pub replies : List Frame
  pub held : List ℕ
  pub read : LongParts came replies held
  pub left : List Question
  pub tells : Tells (SentinelAt start.plan.place) false (map question_of questions) replies events left

abbrev pub AnswersAreDelivered : Type 0
AnswersAreDelivered =
    (start : World) (asker : NodeName) (p : Party) (questions : List Body) (events : List Event)
    → IsConnected start p questions events → AreDelivered start asker p.view questions events

-- the same core and the same answer, whoever asked
abbrev pub SendersAreFree : Type 0
SendersAreFree =
    (plan : Plan) (core : Core) (now : ℕ) (command : Command) (one other : NodeName)
    → ((next plan core now (Commanded one command)).core ≡ (next plan core now (Commanded other command)).core)
    × ((body : Body) × ((next plan core now (Commanded one command)).outputs ≡ Send (record { sender = SentinelAt plan.place; target = one; body = body }) ∷ [])
    × ((next plan core now (Commanded other command)).outputs ≡ Send (record { sender = SentinelAt plan.place; target = other; body = body }) ∷ []))

-- what a Sentinel may hold doesn't depend on whom it is sent to
abbrev pub TargetsAreFree : Type 0
TargetsAreFree = (roster : Roster) (i : ℕ) (parts : BallotParts) (message : Message) (to : NodeName) → IsRight roster i parts message
    → IsRight roster i parts (record message { target = to })

-- the address is in this master's list
pub record IsListed (plan : Plan) (m : ℕ) (addr : Addr) : Type 0 where
  pub within : m < master_count plan
  pub listed : list_any (same_addr addr) (nodes_of plan m) ≡ true

-- the address is in the list of one master alone
pub record IsAlone (plan : Plan) (m : ℕ) (addr : Addr) : Type 0 where
  pub within : m < master_count plan
  pub listed : list_any (same_addr addr) (nodes_of plan m) ≡ true
  pub alone : (n : ℕ) → n < master_count plan → Contains (nodes_of plan n) addr → n ≡ m

-- what is answered to a question about such an address is about the master that has it
abbrev pub AnswersAreAboutIt : Type 0
AnswersAreAboutIt =
    (w : World) (now m : ℕ) (addr : Addr) (epoch : ℕ) (candidate : Option RunId) (n : ℕ) (down : Bool) (leader : Option RunId) (voted : ℕ)
    → IsGood w → IsAlone w.plan m addr → answer_body w now (IsMasterDownByAddr addr epoch candidate) ≡ Answer n addr down leader voted → n ≡ m
