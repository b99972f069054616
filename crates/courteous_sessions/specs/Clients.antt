-- A client's session, with courtesies or without.
use Rattle.std.specs.Prelude.{◌≡◌, ℕ, Bool, true, false, None, Some, List, [], ◌++◌, Result, Ok, Err, OnOk, OnErr, IfErr, IfSome, slice_set, Option}
use Rattle.std.specs.Option.{is_some}
use Rattle.ballot_law.specs.declared.messages.Note.{Note}
use Rattle.ballot_law.specs.Rosters.{Roster}
use Rattle.pubsub.specs.declared.channel.Event.{Event}
use Rattle.pubsub.specs.Listening.{Listening, is_listening}
use Rattle.client_commands.specs.Ports.{PortFacts, no_port}
use Rattle.client_commands.specs.declared.protocols.Protocol.{Protocol}
use Rattle.client_commands.specs.declared.protocols.Protocol.TheVariants.{Two}
use Rattle.client_commands.specs.Courtesies.{ClientInfo, is_stranger}
use Rattle.sentinel_core.specs.declared.serving.fault.ServeFault.{ServeFault}
use Rattle.port_sessions.specs.Notes.{none_told, is_due, Notifies}
use Rattle.port_sessions.specs.declared.limit.Reach.{Reach}
use Rattle.port_sessions.specs.GoingOn as plain
use Rattle.port_sessions.specs.Talks as talks
use Rattle.port_sessions.specs.Talks.{Talk, party}
use Rattle.resp2.specs.Framing.Frame.{spellings}
use Rattle.sentinel_cell.specs.declared.view.View.{View}
use Rattle.sentinel_cell.specs.Histories.{World}
use Rattle.courteous_sessions.specs.Events.{told_of, event_told, is_any}
use Rattle.courteous_sessions.specs.Retelling.{IsTold}
use Rattle.courteous_sessions.specs.declared.shapes.Shape.TheVariants.{Pushes}
use Rattle.courteous_sessions.specs.GoingOn.{GoesOn, StopsInTime, IsFullOf}
use Rattle.courteous_sessions.specs.Visits.{unsubscribed, Visit, Guest, guest, Receives}
use Rattle.courteous_sessions.specs.declared.client_session.ClientSession.{ClientSession}
use Rattle.courteous_sessions.specs.declared.client_session.ClientSession.TheVariants.{Plain, Courteous}

-- what is known of a connection at its beginning
abbrev pub newcomer : (id : ℕ) → ClientInfo
newcomer id =
    record { id = id; name = []; protocol = Two; listens = false; password = None; admitted = false; current = None; port = no_port }

-- a session with courtesies to which no bytes came
abbrev pub arrived : (id : ℕ) → Visit
arrived id =
    record { asker = newcomer id; held = []; unsent = []; ended = None; listening = unsubscribed; listens = None; told = none_told }

-- one to which no bytes came, of the connection with this number
abbrev pub begun : (courteous : Bool) → (id : ℕ) → ClientSession
begun true id = Courteous (arrived id)
begun false id = Plain (record { held = []; unsent = []; ended = None; listens = None; told = none_told })

-- one that wants this password of its client, who didn't give it yet; without courtesies none is wanted
abbrev pub wanting : Visit → (password : List ℕ) → Visit
wanting visit password = record visit { asker = record visit.asker { password = Some password; admitted = false } }

abbrev pub wanting_password : ClientSession → (password : List ℕ) → ClientSession
wanting_password (Plain talk) password = Plain talk
wanting_password (Courteous visit) password = Courteous (wanting visit password)

-- one that knows this current epoch of the Sentinel; without courtesies each epoch is heard as it is
abbrev pub knowing : Visit → (epoch : ℕ) → Visit
knowing visit epoch = record visit { asker = record visit.asker { current = Some epoch } }

abbrev pub knowing_epoch : ClientSession → (epoch : ℕ) → ClientSession
knowing_epoch (Plain talk) epoch = Plain talk
knowing_epoch (Courteous visit) epoch = Courteous (knowing visit epoch)

-- one that knows this of its port; without courtesies nothing is known of it
abbrev pub knowing_of : Visit → PortFacts → Visit
knowing_of visit port = record visit { asker = record visit.asker { port = port } }

abbrev pub knowing_port : ClientSession → PortFacts → ClientSession
knowing_port (Plain talk) port = Plain talk
knowing_port (Courteous visit) port = Courteous (knowing_of visit port)

-- what it knew before, or what one without courtesies is told
abbrev pub port_before : ClientSession → PortFacts → PortFacts
port_before (Plain talk) port = port
port_before (Courteous visit) port = visit.asker.port

-- which protocol it speaks
abbrev pub protocol_of : ClientSession → Protocol
protocol_of (Plain talk) = Two
protocol_of (Courteous visit) = visit.asker.protocol

-- the name that its client gave the connection
abbrev pub name_of : ClientSession → List ℕ
name_of (Plain talk) = []
name_of (Courteous visit) = visit.asker.name

-- to what it listens, where that is counted
abbrev pub listening_of : ClientSession → Listening
listening_of (Plain talk) = unsubscribed
listening_of (Courteous visit) = visit.listening

-- one that was told a current epoch or none
abbrev pub informed : ClientSession → (current : Option ℕ) → ClientSession
informed session None = session
informed session (Some epoch) = knowing_epoch session epoch

-- what isn't sent yet
abbrev pub unsent_of : ClientSession → List ℕ
unsent_of (Plain talk) = talk.unsent
unsent_of (Courteous visit) = visit.unsent

abbrev pub with_unsent : ClientSession → List ℕ → ClientSession
with_unsent (Plain talk) bytes = Plain (record talk { unsent = bytes })
with_unsent (Courteous visit) bytes = Courteous (record visit { unsent = bytes })

-- the bytes that came and are no whole value yet
abbrev pub held_of : ClientSession → List ℕ
held_of (Plain talk) = talk.held
held_of (Courteous visit) = visit.held

-- the client listens
abbrev pub listens_of : ClientSession → Bool
listens_of (Plain talk) = is_some talk.listens
listens_of (Courteous visit) = is_listening visit.listening

-- the client is still to give the password that is wanted
abbrev pub owes_password : ClientSession → Bool
owes_password (Plain talk) = false
owes_password (Courteous visit) = is_stranger visit.asker

-- what the next answer rests on
abbrev pub guest_of_visit : Visit → View → Guest
guest_of_visit visit v = guest (party v visit.listens) visit.listening visit.told visit.asker

module _ (start : World) (now : ℕ) (piece : List ℕ) (result : Result Unit ServeFault) (v w : View) where
  -- a session without courtesies takes a piece
  pub record TakesPlain (talk after : Talk) : Type 0 where
    pub received : talk.ended ≡ None → (more : List ℕ) × (after.unsent ≡ talk.unsent ++ more)
        × talks.Receives start now (talk.held ++ piece) (party v talk.listens) result after.held more (party w after.listens)
    pub told : after.told ≡ talk.told
    pub goes_on : OnOk result (after.ended ≡ None)
    pub closed : IfErr result (λ fault. after.ended ≡ Some fault)
    pub emptied : OnErr result ((after.held ≡ []) × (after.listens ≡ None))
    pub over : IfSome talk.ended (λ fault. (result ≡ Err fault) × (after ≡ talk) × (w ≡ v))

  -- a session with courtesies takes a piece
  pub record TakesCourteous (visit after : Visit) : Type 0 where
    pub received : visit.ended ≡ None → (more : List ℕ) × (after.unsent ≡ visit.unsent ++ more)
        × Receives start now (visit.held ++ piece) (guest_of_visit visit v) result after.held more (guest_of_visit after w)
    pub goes_on : OnOk result (after.ended ≡ None)
    pub closed : IfErr result (λ fault. after.ended ≡ Some fault)
    pub emptied : OnErr result ((after.held ≡ []) × (after.listening ≡ unsubscribed) × (after.listens ≡ None))
    pub over : IfSome visit.ended (λ fault. (result ≡ Err fault) × (after ≡ visit) × (w ≡ v))

  abbrev pub Takes : ClientSession → ClientSession → Type 0
  Takes (Plain talk) (Plain after) = TakesPlain talk after
  Takes (Plain talk) (Courteous after) = ⊥
  Takes (Courteous visit) (Plain after) = ⊥
  Takes (Courteous visit) (Courteous after) = TakesCourteous visit after

module _ (start : World) (now most : ℕ) (piece : List ℕ) (result : Result Reach ServeFault) (v w : View) where
  -- a session without courtesies takes a piece, and answers so many values at most that may store
  pub record TakesSomePlain (talk after : Talk) : Type 0 where
    pub goes_on : talk.ended ≡ None → (more : List ℕ) × (after.unsent ≡ talk.unsent ++ more)
        × plain.GoesOn start now most (talk.held ++ piece) (party v talk.listens) result after.held more (party w after.listens)
    pub told : after.told ≡ talk.told
    pub is_open : OnOk result (after.ended ≡ None)
    pub closed : IfErr result (λ fault. after.ended ≡ Some fault)
    pub emptied : OnErr result ((after.held ≡ []) × (after.listens ≡ None))
    pub over : IfSome talk.ended (λ fault. (result ≡ Err fault) × (after ≡ talk) × (w ≡ v))

  -- the same of a session with courtesies
  pub record TakesSomeCourteous (visit after : Visit) : Type 0 where
    pub goes_on : visit.ended ≡ None → (more : List ℕ) × (after.unsent ≡ visit.unsent ++ more)
        × GoesOn start now most (visit.held ++ piece) (guest_of_visit visit v) result after.held more (guest_of_visit after w)
    pub in_time : visit.ended ≡ None → OnOk result (StopsInTime start now visit.unsent after.unsent)
    pub full : visit.ended ≡ None → IsFullOf result after.unsent
    pub is_open : OnOk result (after.ended ≡ None)
    pub closed : IfErr result (λ fault. after.ended ≡ Some fault)
    pub emptied : OnErr result ((after.held ≡ []) × (after.listening ≡ unsubscribed) × (after.listens ≡ None))
    pub over : IfSome visit.ended (λ fault. (result ≡ Err fault) × (after ≡ visit) × (w ≡ v))

  abbrev pub TakesSome : ClientSession → ClientSession → Type 0
  TakesSome (Plain talk) (Plain after) = TakesSomePlain talk after
  TakesSome (Plain talk) (Courteous after) = ⊥
  TakesSome (Courteous visit) (Plain after) = ⊥
  TakesSome (Courteous visit) (Courteous after) = TakesSomeCourteous visit after

-- ---- notes

-- a session with courtesies, as one that is told notes
abbrev pub talk_of : Visit → Talk
talk_of visit = record { held = []; unsent = []; ended = None; listens = visit.listens; told = visit.told }

-- `bytes` is what it is told of the note
abbrev pub notified : Note → (bytes : List ℕ) → Visit → Visit
notified note bytes visit = record visit { unsent = visit.unsent ++ bytes; told = slice_set visit.told note.master (Some note.card.epoch) }

-- What became of a note: what the connection is told of it, on its channel and for its patterns, joins what is unsent, and it is remembered as told; or it isn't due;
-- or it is due and memory for it was refused: then it may count as told, and nothing else changed
abbrev pub NotifiesVisit : {E : Type 0} → Roster → Note → (entry : ℕ) → Visit → Result Bool E → Visit → Type 0
NotifiesVisit roster note entry visit (Ok true) after =
    (is_due (talk_of visit) note entry ≡ true)
    × (bytes : List ℕ) × IsTold visit.asker.protocol Pushes (spellings (told_of roster note visit.listening)) bytes × (after ≡ notified note bytes visit)
NotifiesVisit roster note entry visit (Ok false) after = (is_due (talk_of visit) note entry ≡ false) × (after ≡ visit)
NotifiesVisit roster note entry visit (Err refused) after =
    (is_due (talk_of visit) note entry ≡ true) × (after ≡ (let v : Visit = record visit { told = after.told } in v))

abbrev pub NotifiesClient : {E : Type 0} → Roster → Note → (entry : ℕ) → ClientSession → Result Bool E → ClientSession → Type 0
NotifiesClient roster note entry (Plain talk) result (Plain after) = Notifies roster note entry talk result after
NotifiesClient roster note entry (Plain talk) result (Courteous after) = ⊥
NotifiesClient roster note entry (Courteous visit) result (Plain after) = ⊥
NotifiesClient roster note entry (Courteous visit) result (Courteous after) = NotifiesVisit roster note entry visit result after

-- ---- events

-- what became of an event: what the connection is told of it joins what is unsent, and whether that is anything; or memory for it was refused, and nothing changed
abbrev pub TellsVisit : {E : Type 0} → Event → Visit → Result Bool E → Visit → Type 0
TellsVisit event visit (Ok any) after =
    (any ≡ is_any (spellings (event_told event visit.listening)))
    × (bytes : List ℕ) × IsTold visit.asker.protocol Pushes (spellings (event_told event visit.listening)) bytes
    × (after ≡ (let v : Visit = record visit { unsent = visit.unsent ++ bytes } in v))
TellsVisit event visit (Err refused) after = after ≡ visit

-- a session without courtesies is told none
abbrev pub TellsClient : {E : Type 0} → Event → ClientSession → Result Bool E → ClientSession → Type 0
TellsClient event (Plain talk) result (Plain after) = (result ≡ Ok false) × (after ≡ talk)
TellsClient event (Plain talk) result (Courteous after) = ⊥
TellsClient event (Courteous visit) result (Plain after) = ⊥
TellsClient event (Courteous visit) result (Courteous after) = TellsVisit event visit result after
