-- The two ends of one connection to a port that has courtesies, and whose thread answers other connections by the same seat.
use Rattle.std.specs.Prelude.{◌≡◌, ℕ, false, ◌++◌, ◌∷◌, List, [], map, None}
use Rattle.std.specs.List.{flat_map, AllByRecursion}
use Rattle.ballot_law.specs.declared.events.Event.{Event}
use Rattle.ballot_law.specs.declared.messages.Body.{Body}
use Rattle.ballot_law.specs.declared.messages.NodeName.{NodeName}
use Rattle.ballot_law.specs.declared.messages.NodeName.TheVariants.{SentinelAt}
use Rattle.client_commands.specs.Courtesies.{is_stranger}
use Rattle.courteous_sessions.specs.Epochs.{heard_as}
use Rattle.courteous_sessions.specs.Visits.{Guest, IsAnswered, Tells as TellsClient}
use Rattle.links.specs.declared.sessions.questions.Question.{Question}
use Rattle.links.specs.Sessions.Links.{question_of, Tells, IsHeard}
use Rattle.resp2.specs.Long.LongValues.{LongParts}
use Rattle.node_texts.specs.Messages.MessageTexts.{message_bytes}
use Rattle.pubsub.specs.Listening.{is_listening}
use Rattle.resp2.specs.Commands.{command_of}
use Rattle.resp2.specs.Framing.Frame.{Frame}
use Rattle.resp2.specs.Framing.Stream.{Parts}
use Rattle.sentinel_cell.specs.declared.entry.Entry.{Entry}
use Rattle.sentinel_cell.specs.Histories.{World}
use Rattle.process_laws.specs.Connections.{IsAskable, AreDelivered}

-- Between two values of a connection its seat sees more, by calls of the other connections of its thread, and the connection may be told notes and a current epoch. It
-- doesn't begin to listen meanwhile, and whether it still owes a password stays
pub record IsLater (g next : Guest) : Type 0 where
  pub more : List Entry
  pub front : next.party.view.front ≡ g.party.view.front ++ more
  pub silent : next.party.listens ≡ g.party.listens
  pub quiet : next.listening ≡ g.listening
  pub known : is_stranger next.asker ≡ is_stranger g.asker

-- a value is heard as it is: it asks for no vote in an epoch that is too far above the one that the connection was told
abbrev pub IsNear : Guest → Frame → Type 0
IsNear g value = heard_as g.asker.current (command_of value) ≡ command_of value

-- the answers to these values, in their order, each at a reading of the clock of its own, with whatever the seat does between two of them
abbrev pub ServedBeside : World → Guest → List Frame → List ℕ → Guest → Type 0
ServedBeside start g [] bytes h = (bytes ≡ []) × (h ≡ g)
ServedBeside start g (value ∷ values) bytes h =
    (now : ℕ) × (next : Guest) × (middle : Guest) × (first : List ℕ) × (rest : List ℕ) × (bytes ≡ first ++ rest)
    × IsLater g next × IsNear next value × TellsClient start now next value first middle × ServedBeside start middle values rest h

-- The link asked these questions of a port where no password is owed any more, by whichever protocol the connection speaks; the port got a first part of their bytes, and
-- served the values in it; the link got a first part of the bytes that were put out, and heard the values in it
pub record IsConnectedBeside (start : World) (g : Guest) (questions : List Body) (events : List Event) : Type 0 where
  pub askable : AllByRecursion IsAskable questions
  pub known : is_stranger g.asker ≡ false
  pub quiet : is_listening g.listening ≡ false
  pub silent : g.party.listens ≡ None
  pub got : List ℕ
  pub not_yet_got : List ℕ
  pub sent : flat_map message_bytes questions ≡ got ++ not_yet_got
  pub values : List Frame
  pub unread : List ℕ
  pub parts : Parts got values unread
  pub bytes : List ℕ
  pub h : Guest
  pub served : ServedBeside start g values bytes h
  pub came : List ℕ
  pub not_yet_come : List ℕ
  pub put_out : bytes ≡ came ++ not_yet_come
  pub replies : List Frame
  pub held : List ℕ
  pub read : LongParts came replies held
  pub left : List Question
  pub tells : Tells (SentinelAt start.plan.place) false (map question_of questions) replies events left

abbrev pub SharedAnswersAreDelivered : Type 0
SharedAnswersAreDelivered =
    (start : World) (asker : NodeName) (g : Guest) (questions : List Body) (events : List Event)
    → IsConnectedBeside start g questions events → AreDelivered start asker g.party.view questions events

-- what was heard before a question was asked would have been heard, and nothing else, if it had been asked before; it is left
abbrev pub LaterQuestionsWait : Type 0
LaterQuestionsWait =
    (node : NodeName) (asked more left : List Question) (stream held : List ℕ) (events : List Event)
    → IsHeard node false asked stream events left held → IsHeard node false (asked ++ more) stream events (left ++ more) held

-- What a port puts out for pieces, one after the other, each of which its session takes at a reading of the clock of its own and answers whole. `held` is what it
-- holds before them. Between two pieces the seat sees more, and each value is heard as it is
abbrev pub AnsweredInPieces : World → Guest → (held : List ℕ) → (pieces : List (List ℕ)) → (bytes : List ℕ) → Type 0
AnsweredInPieces start g held [] bytes = bytes ≡ []
AnsweredInPieces start g held (piece ∷ pieces) bytes =
    (now : ℕ) × (next : Guest) × (middle : Guest) × (kept : List ℕ) × (first : List ℕ) × (rest : List ℕ) × (bytes ≡ first ++ rest) × IsLater g next
    × (answered : IsAnswered start now (held ++ piece) next kept first middle) × AllByRecursion (IsNear next) answered.values
    × AnsweredInPieces start middle kept pieces rest

-- The same connection by what its two ends promise of each piece: the port's session got a first part of the bytes of the questions, in pieces; the link got a first part
-- of the bytes that were put out for them, and heard these events
pub record IsConnectedInPieces (start : World) (g : Guest) (questions : List Body) (events : List Event) : Type 0 where
  pub askable : AllByRecursion IsAskable questions
  pub known : is_stranger g.asker ≡ false
  pub quiet : is_listening g.listening ≡ false
  pub silent : g.party.listens ≡ None
  pub pieces : List (List ℕ)
  pub not_yet_got : List ℕ
  pub sent : flat_map message_bytes questions ≡ flat_map (λ (piece : List ℕ). piece) pieces ++ not_yet_got
  pub bytes : List ℕ
  pub answered : AnsweredInPieces start g [] pieces bytes
  pub came : List ℕ
  pub not_yet_come : List ℕ
  pub put_out : bytes ≡ came ++ not_yet_come
  pub left : List Question
  pub held : List ℕ
  pub heard : IsHeard (SentinelAt start.plan.place) false (map question_of questions) came events left held

-- such a connection is one of which the law above speaks
abbrev pub PiecesAreAConnection : Type 0
PiecesAreAConnection =
    (start : World) (g : Guest) (questions : List Body) (events : List Event) → IsConnectedInPieces start g questions events → IsConnectedBeside start g questions events
