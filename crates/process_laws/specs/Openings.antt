-- A connection to a port as `watch` opens it: before all messages a link logs in, where there is a password, and asks for the Sentinel's run id.
use Rattle.std.specs.Prelude.{◌≡◌, ℕ, ◌⊎◌, ◌++◌, ◌∷◌, List, [], map, false, None, Some}
use Rattle.std.specs.List.{flat_map, AllByRecursion}
use Rattle.ballot_law.specs.declared.addresses.RunId.{RunId}
use Rattle.ballot_law.specs.declared.events.Event.{Event}
use Rattle.ballot_law.specs.declared.messages.Body.{Body}
use Rattle.ballot_law.specs.declared.messages.NodeName.{NodeName}
use Rattle.ballot_law.specs.declared.messages.NodeName.TheVariants.{SentinelAt}
use Rattle.client_commands.specs.Courtesies.{is_stranger}
use Rattle.courteous_sessions.specs.Visits.{Guest}
use Rattle.links.specs.declared.sessions.questions.Question.{Question}
use Rattle.links.specs.declared.speaking.Login.{Login}
use Rattle.links.specs.declared.speaking.Login.TheVariants.{Without}
use Rattle.links.specs.Sessions.Links.{question_of, Tells, IsHeard}
use Rattle.resp2.specs.Long.LongValues.{LongParts}
use Rattle.links.specs.Speaking.{login_questions, id_bytes, id_questions}
use Rattle.node_texts.specs.Messages.MessageTexts.{message_bytes}
use Rattle.pubsub.specs.Listening.{is_listening}
use Rattle.resp2.specs.Framing.Frame.{Frame, IsPlain, spelling}
use Rattle.resp2.specs.Framing.Stream.{Parts}
use Rattle.sentinel_cell.specs.Histories.{World}
use Rattle.sentinel_rules.specs.Plans.{me}
use Rattle.process_laws.specs.Connections.{IsAskable, AreDelivered}
use Rattle.process_laws.specs.SharedConnections.{ServedBeside, AnsweredInPieces}

-- what was put out for a login: one value, and nothing where there was none
abbrev pub IsGreeting : Login → List Frame → Type 0
IsGreeting Without greeting = greeting ≡ []
IsGreeting login greeting = (answer : Frame) × (greeting ≡ answer ∷ []) × IsPlain answer

-- The link logged in, asked whether the Sentinel has this run id, and then these questions. The login was answered by one value, after which no password is owed; the port got
-- a first part of the bytes after it, and served the values in that; the link got a first part of the bytes that were put out, and heard the values in it
pub record IsConnectedAnew (start : World) (g : Guest) (login : Login) (id : RunId) (questions : List Body) (events : List Event) : Type 0 where
  pub askable : AllByRecursion IsAskable questions
  pub known : is_stranger g.asker ≡ false
  pub quiet : is_listening g.listening ≡ false
  pub silent : g.party.listens ≡ None
  pub greeting : List Frame
  pub greets : IsGreeting login greeting
  pub got : List ℕ
  pub not_yet_got : List ℕ
  pub sent : id_bytes (Some id) ++ flat_map message_bytes questions ≡ got ++ not_yet_got
  pub values : List Frame
  pub unread : List ℕ
  pub parts : Parts got values unread
  pub bytes : List ℕ
  pub h : Guest
  pub served : ServedBeside start g values bytes h
  pub came : List ℕ
  pub not_yet_come : List ℕ
  pub put_out : flat_map spelling greeting ++ bytes ≡ came ++ not_yet_come
  pub replies : List Frame
  pub held : List ℕ
  pub read : LongParts came replies held
  pub left : List Question
  pub tells : Tells (SentinelAt start.plan.place) false (login_questions login ++ (id_questions (Some id) ++ map question_of questions)) replies events left

-- nothing was heard, or it was heard of the Sentinel with this run id
abbrev pub IsHeardOf : RunId → World → List Event → Type 0
IsHeardOf id start events = (events ≡ []) ⊎ (me start.plan ≡ id)

-- the answers to the messages are delivered, and all are those of the Sentinel that was meant
abbrev pub NewConnectionsDeliver : Type 0
NewConnectionsDeliver =
    (start : World) (asker : NodeName) (g : Guest) (login : Login) (id : RunId) (questions : List Body) (events : List Event)
    → IsConnectedAnew start g login id questions events → AreDelivered start asker g.party.view questions events × IsHeardOf id start events

-- The same connection by what its two ends promise of each piece: the port's session got a first part of the bytes after the login, in pieces; the link got a first part of
-- the bytes that were put out, and heard these events
pub record IsConnectedAnewInPieces (start : World) (g : Guest) (login : Login) (id : RunId) (questions : List Body) (events : List Event) : Type 0 where
  pub askable : AllByRecursion IsAskable questions
  pub known : is_stranger g.asker ≡ false
  pub quiet : is_listening g.listening ≡ false
  pub silent : g.party.listens ≡ None
  pub greeting : List Frame
  pub greets : IsGreeting login greeting
  pub pieces : List (List ℕ)
  pub not_yet_got : List ℕ
  pub sent : id_bytes (Some id) ++ flat_map message_bytes questions ≡ flat_map (λ (piece : List ℕ). piece) pieces ++ not_yet_got
  pub bytes : List ℕ
  pub answered : AnsweredInPieces start g [] pieces bytes
  pub came : List ℕ
  pub not_yet_come : List ℕ
  pub put_out : flat_map spelling greeting ++ bytes ≡ came ++ not_yet_come
  pub left : List Question
  pub held : List ℕ
  pub heard : IsHeard (SentinelAt start.plan.place) false (login_questions login ++ (id_questions (Some id) ++ map question_of questions)) came events left held

-- such a connection is one of those above
abbrev pub PiecesAreANewConnection : Type 0
PiecesAreANewConnection =
    (start : World) (g : Guest) (login : Login) (id : RunId) (questions : List Body) (events : List Event)
    → IsConnectedAnewInPieces start g login id questions events → IsConnectedAnew start g login id questions events
