-- What a client is answered whose session has courtesies, and how its session ends.
use Rattle.std.specs.Prelude.{◌≡◌, ◌⊎◌, ◌++◌, ◌∷◌, ℕ, Bool, true, false, Option, None, List, [], Result, Ok, Err}
use Rattle.ballot_law.specs.declared.commands.Command.{Command}
use Rattle.ballot_law.specs.declared.commands.Command.TheVariants.{Info, Subscribe}
use Rattle.pubsub.specs.declared.channel.Channel.TheVariants.{SwitchMaster}
use Rattle.pubsub.specs.Answering.{Answer as ChannelAnswer, other, said as confirmed, answer as channel_answer}
use Rattle.pubsub.specs.Listening.{Listening, is_listening}
use Rattle.pubsub.specs.Telling.{channel_name, hears}
use Rattle.client_commands.specs.declared.port_facts.Figures.{Figures}
use Rattle.client_commands.specs.declared.protocols.Protocol.{Protocol}
use Rattle.client_commands.specs.declared.protocols.Protocol.TheVariants.{Two, Three}
use Rattle.client_commands.specs.Courtesies.{ClientInfo, Answer, left, said, asks_info, silent, courtesy, asker_after, is_stranger}
use Rattle.client_commands.specs.Infos.{info}
use Rattle.client_commands.specs.Lines.{Reads, Holds}
use Rattle.sentinel_core.specs.declared.serving.fault.ServeFault.{ServeFault}
use Rattle.sentinel_core.specs.declared.serving.fault.ServeFault.TheVariants.{Frame as FaultyFrame, Read, Write, Halted, NoMemory}
use Rattle.sentinel_core.specs.Serving.Serving.{last_line}
use Rattle.port_sessions.specs.Notes.{none_told}
use Rattle.port_sessions.specs.Talks.{Party, party, Responds, BeginsNotes, Fails}
use Rattle.resp2.specs.Commands.{redis_command_of}
use Rattle.resp2.specs.declared.framing.fault.FrameFault.{FrameFault}
use Rattle.resp2.specs.Framing.Frame.{Frame, spelling, spellings}
use Rattle.resp2.specs.Framing.Reading.{frame_at}
use Rattle.resp2.specs.Framing.Stream.{reading, ended}
use Rattle.resp2.specs.declared.command.CommandFault.{CommandFault}
use Rattle.sentinel_cell.specs.declared.view.View.{View}
use Rattle.sentinel_cell.specs.Histories.{World}
use Rattle.sentinel_rules.specs.Plans.{roster_of}
use Rattle.courteous_sessions.specs.Epochs.{heard_as}
use Rattle.courteous_sessions.specs.Retelling.{first_word, is_subscribing, shape_of, IsTold}

-- What a session with courtesies has: what is known of its connection; the bytes that came and are no
-- whole value yet, the answers, notes and events that aren't sent yet, and the fault that ended it; to which channels and patterns it listens. Where it hears of new
-- addresses, it has the entry since which it does, and of each master the epoch of the configuration that it was told last since then
pub record Visit : Type 0 where
  pub asker : ClientInfo
  pub held : List ℕ
  pub unsent : List ℕ
  pub ended : Option ServeFault
  pub listening : Listening
  pub listens : Option ℕ
  pub told : List (Option ℕ)

-- what an answer rests on: what the seat has seen and since which entry the session below listens to notes, what is known of the connection, to what it listens, and
-- of each master the epoch of the configuration that it was told last
pub record Guest : Type 0 where
  pub party : Party
  pub asker : ClientInfo
  pub listening : Listening
  pub told : List (Option ℕ)

-- at protocol 2 who listens has no commands but those of Pub/Sub and PING; at protocol 3 he has all, as what he hears comes as pushes
abbrev pub is_confined : Protocol → Listening → Bool
is_confined Two l = is_listening l
is_confined Three l = false

abbrev pub confined : Listening → ClientInfo → ClientInfo
confined l asker = record asker { listens = is_confined asker.protocol l }

abbrev pub guest : Party → Listening → (told : List (Option ℕ)) → ClientInfo → Guest
guest p l told asker = record { party = p; asker = confined l asker; listening = l; told = told }

-- ---- Pub/Sub

-- who listens to nothing
abbrev pub unsubscribed : Listening
unsubscribed = record { channels = []; patterns = [] }

-- the channel of new addresses
abbrev pub switches : List ℕ
switches = channel_name SwitchMaster

-- a channel or a pattern has a connection hear of new addresses
abbrev pub hears_switches : Listening → Bool
hears_switches l = hears l switches

-- at protocol 3 it answers those commands alone that change to what a connection listens
abbrev pub turn_in : Protocol → Listening → Frame → ChannelAnswer
turn_in Two l value = channel_answer value l
turn_in Three l value = elim (is_subscribing (first_word value)) [ true ↦ channel_answer value l | false ↦ other ]

-- what Pub/Sub makes of a value; it answers none of a client that is still to give its password
abbrev pub channel_turn : ClientInfo → Listening → Frame → ChannelAnswer
channel_turn asker l value = elim (is_stranger asker) [ true ↦ other | false ↦ turn_in asker.protocol l value ]

-- who hears of new addresses no more is told from the beginning when it does again
abbrev pub told_after : (hears : Bool) → (told : List (Option ℕ)) → List (Option ℕ)
told_after true told = told
told_after false told = none_told

module _ (start : World) (now : ℕ) where
  -- INFO is answered by what the port counts and the first value that the Sentinel answers where it is asked for its section
  pub record TellsInfo (figures : Figures) (p : Party) (value : Frame) (bytes : List ℕ) (q : Party) : Type 0 where
    pub answer : List ℕ
    pub turned : Responds start now p (Ok Info) answer q
    pub told : Frame
    pub rest : List ℕ
    pub first : frame_at answer ≡ Ok (told, rest)
    pub bytes_are : bytes ≡ spelling (info figures value told)

  -- The answer to a value by what becomes of it. One that is left is answered by the session without courtesies, a question as it is heard; a courtesy takes no turn, and
  -- changes nothing of what the seat has seen
  abbrev pub Answers : ClientInfo → Answer → Party → Frame → List ℕ → Party → Type 0
  Answers asker left p value bytes q = Responds start now p (heard_as asker.current (redis_command_of value)) bytes q
  Answers asker (said answer) p value bytes q = (bytes ≡ spelling answer) × (q ≡ p)
  Answers asker asks_info p value bytes q = TellsInfo asker.port.figures p value bytes q
  Answers asker silent p value bytes q = (bytes ≡ []) × (q ≡ p)

  -- it listens to notes where the connection hears of new addresses, and else to nothing
  abbrev pub Tunes : (hears : Bool) → Party → Party → Type 0
  Tunes true p q = BeginsNotes start now p.listens p q
  Tunes false p q = q ≡ party p.view None

  -- The answer to a value by what Pub/Sub makes of it. Where that is nothing, a courtesy or the session below answers it, and it changes nothing of what the
  -- connection listens to
  abbrev pub ServesBy : ChannelAnswer → Guest → Frame → List ℕ → Guest → Type 0
  ServesBy other g value bytes h =
      (q : Party) × Answers g.asker (courtesy (roster_of start.plan) g.asker value) g.party value bytes q × (h ≡ guest q g.listening g.told (asker_after g.asker value))
  ServesBy (confirmed answers after) g value bytes h =
      (q : Party) × Tunes (hears_switches after) g.party q × (bytes ≡ spellings answers) × (h ≡ guest q after (told_after (hears_switches after) g.told) g.asker)

  -- the answer of protocol 2 to a value, of no bytes where it has none, and what the next one rests on
  abbrev pub Serves : Guest → Frame → List ℕ → Guest → Type 0
  Serves g value bytes h = ServesBy (channel_turn g.asker g.listening value) g value bytes h

  -- The same at protocol 3, before it is told as that has it: one who listens is answered as one who doesn't, and goes on listening
  abbrev pub ServesBesideBy : ChannelAnswer → Guest → Frame → List ℕ → Guest → Type 0
  ServesBesideBy other g value bytes h =
      (q : Party) × Answers g.asker (courtesy (roster_of start.plan) g.asker value) (party g.party.view None) value bytes q
      × (h ≡ guest (party q.view g.party.listens) g.listening g.told (asker_after g.asker value))
  ServesBesideBy (confirmed answers after) g value bytes h = ServesBy (confirmed answers after) g value bytes h

  abbrev pub ServesBeside : Guest → Frame → List ℕ → Guest → Type 0
  ServesBeside g value bytes h = ServesBesideBy (channel_turn g.asker g.listening value) g value bytes h

  abbrev pub ServesIn : Protocol → Guest → Frame → List ℕ → Guest → Type 0
  ServesIn Two g value bytes h = Serves g value bytes h
  ServesIn Three g value bytes h = ServesBeside g value bytes h

  -- The answer to a value, as the protocol tells it that the connection speaks then: that of HELLO is told in the protocol for which it asks
  abbrev pub Tells : Guest → Frame → List ℕ → Guest → Type 0
  Tells g value bytes h = (answer : List ℕ) × ServesIn g.asker.protocol g value answer h × IsTold h.asker.protocol (shape_of value) answer bytes

  -- the answers to these values, in their order, one after the other
  abbrev pub ServesAll : Guest → List Frame → List ℕ → Guest → Type 0
  ServesAll g [] bytes h = (bytes ≡ []) × (h ≡ g)
  ServesAll g (value ∷ values) bytes h =
      (middle : Guest) × (first : List ℕ) × (rest : List ℕ) × (bytes ≡ first ++ rest) × Tells g value first middle × ServesAll middle values rest h

  -- ---- how a piece is taken: `stream` is what was held before it, and then the piece

  -- all values of the stream were answered, and the bytes after the last of them are held
  pub record IsAnswered (stream : List ℕ) (g : Guest) (held bytes : List ℕ) (h : Guest) : Type 0 where
    pub values : List Frame
    pub splits : Holds stream values (reading held)
    pub answers : ServesAll g values bytes h

  -- what the session below, or one beside it, may be asked for a value: its own command as it is heard, the section of INFO, or SUBSCRIBE
  abbrev pub IsAskedFor : Frame → Result Command CommandFault → Type 0
  IsAskedFor value asked = ((current : Option ℕ) × (asked ≡ heard_as current (redis_command_of value))) ⊎ ((asked ≡ Ok Info) ⊎ (asked ≡ Ok Subscribe))

  -- such a session has no answer to what it is asked, which may have been carried out: what the seat has seen before that, and then
  abbrev pub FailsAt : View → Result Command CommandFault → ServeFault → View → Type 0
  FailsAt v asked fault w = (listens : Option ℕ) × (listened : Option ℕ) × Fails start now (party v listens) asked fault (party w listened)

  -- a value has no answer
  pub record IsUnanswered (v : View) (value : Frame) (fault : ServeFault) (w : View) : Type 0 where
    pub asked : Result Command CommandFault
    pub for_it : IsAskedFor value asked
    pub fails : FailsAt v asked fault w

  -- the values before a fault were answered, and then comes the line of the fault; `w` is what the seat has seen
  pub record IsRefused (stream : List ℕ) (fault : FrameFault) (g : Guest) (bytes : List ℕ) (w : View) : Type 0 where
    pub values : List Frame
    pub splits : Holds stream values (ended fault)
    pub text : List ℕ
    pub bytes_are : bytes ≡ text ++ last_line
    pub last : Guest
    pub answers : ServesAll g values text last
    pub sees : w ≡ last.party.view

  -- the value after these has no answer
  pub record IsLost (stream : List ℕ) (values : List Frame) (v : View) (fault : ServeFault) (w : View) : Type 0 where
    pub value : Frame
    pub rest : List ℕ
    pub parts : Reads stream (values ++ value ∷ []) rest
    pub unanswered : IsUnanswered v value fault w

  -- what the seat has seen where an answer is missing: at want of memory what the values answered before let it see, or what the next one did; else what that did
  abbrev pub IsSeenAfter : ServeFault → (stream : List ℕ) → List Frame → View → View → Type 0
  IsSeenAfter NoMemory stream values v w = (w ≡ v) ⊎ IsLost stream values v NoMemory w
  IsSeenAfter fault stream values v w = IsLost stream values v fault w

  -- values of the stream were answered, and nothing was put out for what comes after them
  pub record IsCut (stream : List ℕ) (g : Guest) (fault : ServeFault) (bytes : List ℕ) (w : View) : Type 0 where
    pub values : List Frame
    pub rest : List ℕ
    pub parts : Reads stream values rest
    pub last : Guest
    pub answers : ServesAll g values bytes last
    pub sees : IsSeenAfter fault stream values last.party.view w

  abbrev pub Breaks : (stream : List ℕ) → Guest → ServeFault → (bytes : List ℕ) → View → Type 0
  Breaks stream g (FaultyFrame fault) bytes w = IsRefused stream fault g bytes w
  Breaks stream g Halted bytes w = IsCut stream g Halted bytes w
  Breaks stream g NoMemory bytes w = IsCut stream g NoMemory bytes w
  Breaks stream g Read bytes w = ⊥
  Breaks stream g Write bytes w = ⊥

  abbrev pub Receives : {X : Type 0} → (stream : List ℕ) → Guest → Result X ServeFault → (held bytes : List ℕ) → Guest → Type 0
  Receives stream g (Ok x) held bytes h = IsAnswered stream g held bytes h
  Receives stream g (Err fault) held bytes h = Breaks stream g fault bytes h.party.view
