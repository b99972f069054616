-- What a client of a shared Sentinel's port is answered, and how its session ends.
use Rattle.std.specs.Prelude.{◌≡◌, ◌≢◌, ◌⊎◌, ◌++◌, ◌∷◌, ◌-◌, ℕ, Bool, true, false, Option, None, Some, List, [], Result, Ok, Err, length}
use Rattle.std.specs.List.{flat_map}
use Rattle.ballot_law.specs.declared.cards.Card.{Card}
use Rattle.ballot_law.specs.declared.cards.Shown.{Shown}
use Rattle.ballot_law.specs.declared.commands.Command.{Command}
use Rattle.ballot_law.specs.declared.commands.Command.TheVariants.{GetMasterAddrByName, Subscribe}
use Rattle.ballot_law.specs.declared.events.Event.TheVariants.{Command as Commanded}
use Rattle.ballot_law.specs.declared.events.Input.{Input}
use Rattle.ballot_law.specs.declared.messages.Body.TheVariants.{AddressAnswer}
use Rattle.ballot_law.specs.declared.messages.NodeName.TheVariants.{PortAt}
use Rattle.ballot_law.specs.declared.messages.Output.{Output}
use Rattle.node_texts.specs.Messages.MessageTexts.{message_bytes}
use Rattle.port_answers.specs.Answers.{command_fault}
use Rattle.sentinel_core.specs.declared.serving.fault.ServeFault.{ServeFault}
use Rattle.sentinel_core.specs.declared.serving.fault.ServeFault.TheVariants.{Frame as FaultyFrame, Read, Write, Halted as ServeHalted, NoMemory as OutOfMemory}
use Rattle.sentinel_core.specs.Serving.Serving.{output_bytes, last_line}
use Rattle.resp2.specs.declared.command.CommandFault.{CommandFault}
use Rattle.resp2.specs.Commands.{command_of}
use Rattle.resp2.specs.declared.framing.fault.FrameFault.{FrameFault}
use Rattle.resp2.specs.Framing.Frame.{Frame, spelling}
use Rattle.resp2.specs.Framing.Stream.{reading, ended, Parts, Splits}
use Rattle.sentinel_cell.specs.declared.entry.Outcome.TheVariants.{Stored}
use Rattle.sentinel_cell.specs.declared.fault.ActFault.{ActFault}
use Rattle.sentinel_cell.specs.declared.fault.ActFault.TheVariants.{NoMemory}
use Rattle.sentinel_cell.specs.declared.view.View.{View}
use Rattle.sentinel_cell.specs.Histories.{World, IsLegal, stored_at}
use Rattle.sentinel_cell.specs.Standing.{Adds, Faulted}
use Rattle.sentinel_cell.specs.Turns.{answered, IsFresh}
use Rattle.sentinel_rules.specs.Answers.{named}
use Rattle.port_sessions.specs.Listening.{answer_while_listening}

-- What a session has: the bytes that came and are no whole value yet, the answers and notes that aren't sent yet, and the fault that ended it.
-- Where it listens to notes, it has the entry of its SUBSCRIBE in the history of the Sentinel. Of each master it has the epoch of the configuration that it was told last
pub record Talk : Type 0 where
  pub held : List ℕ
  pub unsent : List ℕ
  pub ended : Option ServeFault
  pub listens : Option ℕ
  pub told : List (Option ℕ)

-- a session that ended holds no bytes and listens to nothing
abbrev pub IsEmptied : Option ServeFault → (held : List ℕ) → (listens : Option ℕ) → Type 0
IsEmptied None held listens = Unit {0}
IsEmptied (Some fault) held listens = (held ≡ []) × (listens ≡ None)

-- what an answer rests on: what the seat has seen, and since which entry the session listens
pub record Party : Type 0 where
  pub view : View
  pub listens : Option ℕ

abbrev pub party : View → Option ℕ → Party
party v listens = record { view = v; listens = listens }

-- ---- one answer

-- a command is an input from the first port
abbrev pub asked : (now : ℕ) → Command → Input
asked now command = record { now = now; event = Commanded (PortAt 0) command }

-- a question for an address takes no turn, and every other command takes one
abbrev pub takes_turn : Command → Bool
takes_turn (GetMasterAddrByName name) = false
takes_turn command = true

-- after the answer to SUBSCRIBE the session listens, since the last entry that its seat has seen then
abbrev pub listens_after : Result Command CommandFault → View → Option ℕ
listens_after (Ok Subscribe) w = Some (length w.front - 1)
listens_after command w = None

abbrev pub shown : (m : ℕ) → Card → Shown
shown m card = record { master = m; card = card }

module _ (start : World) where
  -- one load of a master's word tells a stored configuration that is no older than what the seat has seen or was told, and that joins the
  -- seat's answers; of a name that no master has nothing is told. The seat takes no turn
  abbrev pub IsTold : View → Option ℕ → Option Shown → View → Type 0
  IsTold v None told w = (told ≡ None) × (w ≡ v)
  IsTold v (Some m) told w = (card : Card) × (told ≡ Some (shown m card)) × IsFresh (IsLegal start) (stored_at start) v m card × (w ≡ answered v m card)

  -- a question for an address is answered by one load
  abbrev pub TellsAddress : View → Option ℕ → List ℕ → View → Type 0
  TellsAddress v found bytes w = (told : Option Shown) × (bytes ≡ message_bytes (AddressAnswer told)) × IsTold v found told w

module _ (start : World) (now : ℕ) where
  -- any other command is answered by the outputs of one turn, which is the last entry of a legal history that begins with what the seat has seen
  abbrev pub TakesTurn : View → Command → List ℕ → View → Type 0
  TakesTurn v command bytes w = (outputs : List Output) × (bytes ≡ flat_map output_bytes outputs) × Adds start v (asked now command) Stored outputs w

  -- The answer to a value at a seat where the session doesn't listen, and what the seat has seen then; a value that is no command is answered
  -- by the line of its fault
  abbrev pub Replies : View → Result Command CommandFault → List ℕ → View → Type 0
  Replies v (Ok (GetMasterAddrByName name)) bytes w = TellsAddress start v (named start.plan name) bytes w
  Replies v (Ok command) bytes w = TakesTurn v command bytes w
  Replies v (Err fault) bytes w = (bytes ≡ spelling (command_fault fault)) × (w ≡ v)

  -- a session that listens takes no turn and asks for no address
  abbrev pub RespondsAt : Option ℕ → View → Result Command CommandFault → List ℕ → Party → Type 0
  RespondsAt None v command bytes q = Replies v command bytes q.view × (q.listens ≡ listens_after command q.view)
  RespondsAt (Some entry) v command bytes q = (bytes ≡ spelling (answer_while_listening command)) × (q ≡ party v (Some entry))

  -- the answer to a value, and what the next one rests on
  abbrev pub Responds : Party → Result Command CommandFault → List ℕ → Party → Type 0
  Responds p command bytes q = RespondsAt p.listens p.view command bytes q

  -- who doesn't listen to notes begins to: SUBSCRIBE takes its turn, and its answer isn't told
  abbrev pub BeginsNotes : Option ℕ → Party → Party → Type 0
  BeginsNotes None p q = (confirmation : List ℕ) × Responds p (Ok Subscribe) confirmation q
  BeginsNotes (Some entry) p q = q ≡ p

  -- a command showed nothing in its turn where the session doesn't listen, since the Sentinel is halted or is so now, or has no turn, since no tickets are left
  pub record IsHaltedAt (p : Party) (command : Result Command CommandFault) (q : Party) : Type 0 where
    pub what : Command
    pub is_it : command ≡ Ok what
    pub turn : takes_turn what ≡ true
    pub silent : p.listens ≡ None
    pub why : ActFault
    pub not_memory : why ≢ NoMemory
    pub turned : Faulted start p.view (asked now what) [] q.view why

  -- a value has no answer, for which a command may have been carried out
  abbrev pub Fails : Party → Result Command CommandFault → ServeFault → Party → Type 0
  Fails p command ServeHalted q = IsHaltedAt p command q
  Fails p command OutOfMemory q = (q ≡ p) ⊎ ((bytes : List ℕ) × Responds p command bytes q)
  Fails p command (FaultyFrame fault) q = ⊥
  Fails p command Read q = ⊥
  Fails p command Write q = ⊥

  -- how the answering of one value ends
  abbrev pub Ends : {X : Type 0} → Party → Result Command CommandFault → Result X ServeFault → (bytes : List ℕ) → Party → Type 0
  Ends p command (Ok x) bytes q = Responds p command bytes q
  Ends p command (Err fault) bytes q = Fails p command fault q

  -- the same of a whole session: after a fault nothing is put out, and it listens to nothing
  abbrev pub EndsSession : {X : Type 0} → Party → Result Command CommandFault → Result X ServeFault → (bytes : List ℕ) → Party → Type 0
  EndsSession p command (Ok x) bytes q = Responds p command bytes q
  EndsSession p command (Err fault) bytes q = (bytes ≡ []) × (q.listens ≡ None) × (listened : Option ℕ) × Fails p command fault (party q.view listened)

  -- the answers to these values, in their order, one behind the other
  abbrev pub AnswersTo : Party → List Frame → List ℕ → Party → Type 0
  AnswersTo p [] bytes q = (bytes ≡ []) × (q ≡ p)
  AnswersTo p (value ∷ values) bytes q =
      (middle : Party) × (first : List ℕ) × (rest : List ℕ)
      × (bytes ≡ first ++ rest) × Responds p (command_of value) first middle × AnswersTo middle values rest q

  -- ---- how a piece is taken: `stream` is what was held before it, and then the piece

  -- all values of the stream were answered, and the bytes behind the last of them are held
  pub record IsAnswered (stream : List ℕ) (p : Party) (held bytes : List ℕ) (q : Party) : Type 0 where
    pub values : List Frame
    pub splits : Splits stream values (reading held)
    pub answers : AnswersTo p values bytes q

  -- the values before a fault were answered, and then comes the line of the fault
  pub record IsRefused (stream : List ℕ) (fault : FrameFault) (p : Party) (bytes : List ℕ) (q : Party) : Type 0 where
    pub values : List Frame
    pub splits : Splits stream values (ended fault)
    pub text : List ℕ
    pub bytes_are : bytes ≡ text ++ last_line
    pub answers : AnswersTo p values text q

  -- the values before a command were answered, and the command wasn't
  pub record IsHalted (stream : List ℕ) (p : Party) (bytes : List ℕ) (q : Party) : Type 0 where
    pub values : List Frame
    pub value : Frame
    pub rest : List ℕ
    pub parts : Parts stream (values ++ value ∷ []) rest
    pub middle : Party
    pub answers : AnswersTo p values bytes middle
    pub halted : IsHaltedAt middle (command_of value) q

  -- what one value more did to the seat whose answer had no room
  pub record IsLost (stream : List ℕ) (values : List Frame) (p q : Party) : Type 0 where
    pub value : Frame
    pub rest : List ℕ
    pub parts : Parts stream (values ++ value ∷ []) rest
    pub bytes : List ℕ
    pub reply : Responds p (command_of value) bytes q

  -- values were answered, and at most one more was carried out
  pub record IsCut (stream : List ℕ) (p : Party) (bytes : List ℕ) (q : Party) : Type 0 where
    pub values : List Frame
    pub rest : List ℕ
    pub parts : Parts stream values rest
    pub middle : Party
    pub answers : AnswersTo p values bytes middle
    pub left : (q ≡ middle) ⊎ IsLost stream values middle q

  abbrev pub Breaks : (stream : List ℕ) → Party → ServeFault → (bytes : List ℕ) → Party → Type 0
  Breaks stream p (FaultyFrame fault) bytes q = IsRefused stream fault p bytes q
  Breaks stream p ServeHalted bytes q = IsHalted stream p bytes q
  Breaks stream p OutOfMemory bytes q = IsCut stream p bytes q
  Breaks stream p Read bytes q = ⊥
  Breaks stream p Write bytes q = ⊥

  -- a session that ended listens to nothing
  abbrev pub Receives : {X : Type 0} → (stream : List ℕ) → Party → Result X ServeFault → (held bytes : List ℕ) → Party → Type 0
  Receives stream p (Ok x) held bytes q = IsAnswered stream p held bytes q
  Receives stream p (Err fault) held bytes q = (q.listens ≡ None) × (listened : Option ℕ) × Breaks stream p fault bytes (party q.view listened)
