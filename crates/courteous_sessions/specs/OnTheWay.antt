-- What is true within a call that takes a piece.
use Rattle.std.specs.Prelude.{◌≡◌, ℕ, Bool, true, false, Option, None, Some, List, [], ◌++◌, Result, Ok, Err, slice_set}
use Rattle.std.specs.Option.{is_some}
use Rattle.ballot_law.specs.declared.commands.Command.{Command}
use Rattle.ballot_law.specs.declared.messages.Note.{Note}
use Rattle.ballot_law.specs.Rosters.{Roster}
use Rattle.pubsub.specs.declared.channel.Event.{Event}
use Rattle.pubsub.specs.Listening.{Listening, is_listening}
use Rattle.client_commands.specs.Attendants.{Attendance}
use Rattle.client_commands.specs.declared.protocols.Protocol.{Protocol}
use Rattle.client_commands.specs.declared.protocols.Protocol.TheVariants.{Two}
use Rattle.client_commands.specs.Courtesies.{ClientInfo, Answer, is_stranger}
use Rattle.client_commands.specs.Lines.{Reads}
use Rattle.sentinel_core.specs.declared.serving.fault.ServeFault.{ServeFault}
use Rattle.port_sessions.specs.declared.hearing.NotesHeard.{NotesHeard}
use Rattle.port_sessions.specs.Notes.{is_news}
use Rattle.port_sessions.specs.Talks.{Party, party, Responds}
use Rattle.resp2.specs.declared.command.CommandFault.{CommandFault}
use Rattle.resp2.specs.Framing.Frame.{Frame, spellings}
use Rattle.resp2.specs.Framing.Reading.{frame_at}
use Rattle.resp2.specs.Framing.Stream.{Held, reading, bytes_in}
use Rattle.sentinel_cell.specs.declared.view.View.{View}
use Rattle.sentinel_cell.specs.Histories.{World}
use Rattle.courteous_sessions.specs.Events.{told_of, event_told, is_any}
use Rattle.courteous_sessions.specs.Retelling.{IsTold, JoinsTold}
use Rattle.courteous_sessions.specs.declared.shapes.Shape.TheVariants.{Plain, Pushes}
use Rattle.courteous_sessions.specs.Visits.{Guest, guest, is_confined, unsubscribed, hears_switches, told_after, Answers, Tunes, ServesAll, IsAnswered, Breaks}

-- between two values the responder listens to notes where the connection hears of new addresses and nowhere else, and it is known whether the connection has no commands
-- but those of Pub/Sub
pub record IsReady (attended : Attendance) (listening : Listening) (hearing : NotesHeard) : Type 0 where
  pub reads : attended.held ≡ reading (bytes_in attended.held)
  pub listens : attended.asker.listens ≡ is_confined attended.asker.protocol listening
  pub hears : is_some hearing.listens ≡ hears_switches listening

-- a command may be answered where it stands in a piece: nothing is held, the connection speaks protocol 2 and listens to nothing, and no password is wanted that the client
-- didn't give
pub record IsDirect (attended : Attendance) (listening : Listening) : Type 0 where
  pub none_held : attended.held ≡ reading []
  pub speaks : attended.asker.protocol ≡ Two
  pub known : is_stranger attended.asker ≡ false
  pub quiet : is_listening listening ≡ false

-- a session that ended listens to nothing
abbrev pub IsSilenced : Option ServeFault → Listening → Type 0
IsSilenced None l = Unit {0}
IsSilenced (Some fault) l = l ≡ unsubscribed

-- what the next answer rests on
abbrev pub guest_of : Attendance → Listening → NotesHeard → View → Guest
guest_of attended listening hearing v = guest (party v hearing.listens) listening hearing.told attended.asker

-- the same is known of a connection, and the same bytes are held
pub record IsSameAsker (before after : Attendance) : Type 0 where
  pub held : after.held ≡ before.held
  pub asker : after.asker ≡ before.asker

-- the first value of these bytes
pub record BeginsWith (bytes : List ℕ) (value : Frame) : Type 0 where
  pub rest : List ℕ
  pub found : frame_at bytes ≡ Ok (value, rest)

-- What became of a note: it counts as told, and what the connection is told of it joined what isn't sent yet; or it isn't due; or memory for it was refused
abbrev pub NotifiesBelow : {E : Type 0} → Roster → Note → (entry : ℕ) → Protocol → Listening → NotesHeard → (unsent : List ℕ) → Result Bool E → NotesHeard → (unsent : List ℕ)
    → Type 0
NotifiesBelow roster note entry protocol l hearing unsent (Ok true) after more =
    (is_news hearing.listens hearing.told note entry ≡ true) × (after.listens ≡ hearing.listens)
    × (after.told ≡ slice_set hearing.told note.master (Some note.card.epoch)) × JoinsTold protocol Pushes (spellings (told_of roster note l)) unsent more
NotifiesBelow roster note entry protocol l hearing unsent (Ok false) after more =
    (is_news hearing.listens hearing.told note entry ≡ false) × (after.listens ≡ hearing.listens) × (after.told ≡ hearing.told) × (more ≡ unsent)
NotifiesBelow roster note entry protocol l hearing unsent (Err refused) after more =
    (is_news hearing.listens hearing.told note entry ≡ true) × (after.listens ≡ hearing.listens) × (more ≡ unsent)

-- what became of an event: whether anything is told of it, which joined what isn't sent yet; or memory for it was refused
abbrev pub TellsBelow : {E : Type 0} → Event → Protocol → Listening → (unsent : List ℕ) → Result Bool E → (unsent : List ℕ) → Type 0
TellsBelow event protocol l unsent (Ok any) more =
    (any ≡ is_any (spellings (event_told event l))) × JoinsTold protocol Pushes (spellings (event_told event l)) unsent more
TellsBelow event protocol l unsent (Err refused) more = more ≡ unsent

module _ (start : World) (now : ℕ) where
  -- the responder listens to notes where the connection hears of new addresses, and nowhere else
  pub record IsTuned (hears : Bool) (hearing : NotesHeard) (v : View) (after : NotesHeard) (w : View) : Type 0 where
    pub listens : is_some after.listens ≡ hears
    pub tunes : Tunes start now hears (party v hearing.listens) (party w after.listens)
    pub told : after.told ≡ told_after hears hearing.told

  -- a value was answered as of a connection that hears of no new addresses: what joined what isn't sent yet
  pub record AnswersBeside (asker : ClientInfo) (becomes : Answer) (v : View) (value : Frame) (unsent left : List ℕ) (w : View) : Type 0 where
    pub answer : List ℕ
    pub listens : Option ℕ
    pub left_is : left ≡ unsent ++ answer
    pub answers : Answers start now asker becomes (party v None) value answer (party w listens)

  -- a command was answered, and its answer was told as the protocol tells one that is told as it is
  pub record RespondsIn (protocol : Protocol) (p : Party) (asked : Result Command CommandFault) (bytes : List ℕ) (q : Party) : Type 0 where
    pub answer : List ℕ
    pub responds : Responds start now p asked answer q
    pub told : IsTold protocol Plain answer bytes

  -- these values of the stream were answered, and the bytes after them are held
  pub record IsOnTheWay (stream : List ℕ) (g : Guest) (held : Held) (bytes : List ℕ) (h : Guest) : Type 0 where
    pub values : List Frame
    pub rest : List ℕ
    pub held_is : held ≡ reading rest
    pub parts : Reads stream values rest
    pub answers : ServesAll start now g values bytes h

  -- all values of the stream were answered
  abbrev pub IsDone : (stream : List ℕ) → Guest → Held → (bytes : List ℕ) → Guest → Type 0
  IsDone stream g held bytes h = (rest : List ℕ) × (held ≡ reading rest) × IsAnswered start now stream g rest bytes h

  -- how the answering of the first whole value ends: it was answered, or there is none
  abbrev pub Steps : (stream : List ℕ) → Guest → Result Bool ServeFault → Held → (bytes : List ℕ) → Guest → Type 0
  Steps stream g (Ok true) held bytes h = IsOnTheWay stream g held bytes h
  Steps stream g (Ok false) held bytes h = IsDone stream g held bytes h
  Steps stream g (Err fault) held bytes h = Breaks start now stream g fault bytes h.party.view

  -- how the answering of all whole values ends
  abbrev pub Drains : {X : Type 0} → (stream : List ℕ) → Guest → Result X ServeFault → Held → (bytes : List ℕ) → Guest → Type 0
  Drains stream g (Ok x) held bytes h = IsDone stream g held bytes h
  Drains stream g (Err fault) held bytes h = Breaks start now stream g fault bytes h.party.view
