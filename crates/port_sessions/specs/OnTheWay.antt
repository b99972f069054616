-- What is true within a call that takes a piece.
use Rattle.std.specs.Prelude.{◌≡◌, ◌≢◌, ◌⊎◌, ◌∷◌, ℕ, Bool, true, false, List, [], Result, Ok, Err}
use Rattle.ballot_law.specs.declared.commands.Command.{Command}
use Rattle.ballot_law.specs.declared.messages.Message.{Message}
use Rattle.ballot_law.specs.declared.messages.Output.{Output}
use Rattle.ballot_law.specs.declared.messages.Output.TheVariants.{Send}
use Rattle.node_texts.specs.Messages.MessageTexts.{IsWritable}
use Rattle.sentinel_core.specs.declared.serving.fault.ServeFault.{ServeFault}
use Rattle.sentinel_core.specs.declared.serving.fault.ServeFault.TheVariants.{Frame as FaultyFrame, Read, Write, Halted as ServeHalted, NoMemory as OutOfMemory}
use Rattle.sentinel_core.specs.Serving.Serving.{last_line}
use Rattle.resp2.specs.declared.framing.fault.FrameFault.{FrameFault}
use Rattle.resp2.specs.declared.framing.fault.FrameFault.TheVariants.{NoMemory as FrameMemory}
use Rattle.resp2.specs.Framing.Frame.{Frame}
use Rattle.resp2.specs.Framing.Stream.{Held, reading, Parts}
use Rattle.sentinel_cell.specs.declared.entry.Outcome.TheVariants.{Stored}
use Rattle.sentinel_cell.specs.declared.fault.ActFault.{ActFault}
use Rattle.sentinel_cell.specs.declared.fault.ActFault.TheVariants.{NoMemory, Spent, Halted as ActHalted, StoreRefused}
use Rattle.sentinel_cell.specs.declared.view.View.{View}
use Rattle.sentinel_cell.specs.Histories.{World}
use Rattle.sentinel_cell.specs.Standing.{Adds, Faulted}
use Rattle.port_sessions.specs.Talks.{asked, Party, AnswersTo, IsAnswered, Breaks}

module _ (start : World) (now : ℕ) where
  -- a command took its turn, and shows one message
  abbrev pub ShowsAnswer : View → Command → (shown : List Output) → View → Type 0
  ShowsAnswer v command outputs w =
      (message : Message) × (outputs ≡ Send message ∷ []) × IsWritable message.body × Adds start v (asked now command) Stored outputs w

  -- it showed nothing
  abbrev pub ShowsNothing : View → Command → ServeFault → View → Type 0
  ShowsNothing v command ServeHalted w = (why : ActFault) × (why ≢ NoMemory) × Faulted start v (asked now command) [] w why
  ShowsNothing v command OutOfMemory w = w ≡ v
  ShowsNothing v command (FaultyFrame fault) w = ⊥
  ShowsNothing v command Read w = ⊥
  ShowsNothing v command Write w = ⊥

  -- how the turn of a command ends
  abbrev pub Turns : {X : Type 0} → View → Command → Result X ServeFault → (shown : List Output) → View → Type 0
  Turns v command (Ok x) outputs w = ShowsAnswer v command outputs w
  Turns v command (Err fault) outputs w = ShowsNothing v command fault w

  -- these values of the stream were answered, and the bytes behind them are held
  pub record IsOnTheWay (stream : List ℕ) (p : Party) (held : Held) (bytes : List ℕ) (q : Party) : Type 0 where
    pub values : List Frame
    pub rest : List ℕ
    pub held_is : held ≡ reading rest
    pub parts : Parts stream values rest
    pub answers : AnswersTo start now p values bytes q

  -- all values of the stream were answered
  abbrev pub IsDone : (stream : List ℕ) → Party → Held → (bytes : List ℕ) → Party → Type 0
  IsDone stream p held bytes q = (rest : List ℕ) × (held ≡ reading rest) × IsAnswered start now stream p rest bytes q

  -- how the answering of the first whole value ends: it was answered, or there is none
  abbrev pub Steps : (stream : List ℕ) → Party → Result Bool ServeFault → Held → (bytes : List ℕ) → Party → Type 0
  Steps stream p (Ok true) held bytes q = IsOnTheWay stream p held bytes q
  Steps stream p (Ok false) held bytes q = IsDone stream p held bytes q
  Steps stream p (Err fault) held bytes q = Breaks start now stream p fault bytes q

  -- how the answering of all whole values ends
  abbrev pub Drains : {X : Type 0} → (stream : List ℕ) → Party → Result X ServeFault → Held → (bytes : List ℕ) → Party → Type 0
  Drains stream p (Ok x) held bytes q = IsDone stream p held bytes q
  Drains stream p (Err fault) held bytes q = Breaks start now stream p fault bytes q

  -- how the taking of a piece ends, before the session is closed
  abbrev pub Takes : {X : Type 0} → (stream : List ℕ) → Party → Result X ServeFault → (held bytes : List ℕ) → Party → Type 0
  Takes stream p (Ok x) held bytes q = IsAnswered start now stream p held bytes q
  Takes stream p (Err fault) held bytes q = Breaks start now stream p fault bytes q

-- the fault that ends a session at a turn that shows nothing
abbrev pub ended_by : ActFault → ServeFault
ended_by NoMemory = OutOfMemory
ended_by Spent = ServeHalted
ended_by ActHalted = ServeHalted
ended_by StoreRefused = ServeHalted

-- the fault that ends a session at a frame's fault, and what is put out for it
abbrev pub Refuses : FrameFault → (line : List ℕ) → ServeFault → Type 0
Refuses fault line why = ((why ≡ OutOfMemory) × (line ≡ [])) ⊎ ((fault ≢ FrameMemory) × (why ≡ FaultyFrame fault) × (line ≡ last_line))
