-- How a piece is taken by a call that answers so many values that may store, and no more.
use Rattle.std.specs.Prelude.{◌≡◌, ◌≤◌, ◌<◌, ◌+◌, ℕ, Option, None, Some, List, Result, Ok, Err, IfOk}
use Rattle.ballot_law.specs.Limits as limits
use Rattle.ballot_law.specs.declared.commands.Command.{Command}
use Rattle.sentinel_core.specs.declared.serving.fault.ServeFault.{ServeFault}
use Rattle.sentinel_core.specs.declared.serving.fault.ServeFault.TheVariants.{Frame as FaultyFrame, Read, Write, Halted as ServeHalted, NoMemory as OutOfMemory}
use Rattle.resp2.specs.declared.framing.fault.FrameFault.{FrameFault}
use Rattle.resp2.specs.Framing.Frame.{Frame}
use Rattle.resp2.specs.Framing.Stream.{Held, reading, bytes_in, held_size, Parts}
use Rattle.resp2.specs.Asked.{Asks}
use Rattle.resp2.specs.declared.command.CommandFault.{CommandFault}
use Rattle.sentinel_cell.specs.Histories.{World}
use Rattle.port_sessions.specs.declared.limit.Reach.{Reach}
use Rattle.port_sessions.specs.declared.limit.Reach.TheVariants.{Done, Waits, Full}
use Rattle.port_sessions.specs.declared.ahead.Ahead.{Ahead}
use Rattle.port_sessions.specs.declared.ahead.Ahead.TheVariants.{Asked, PutOff, Short}
use Rattle.port_sessions.specs.Stores.{may_store, one_if, stores_among, IsStoreNext}
use Rattle.port_sessions.specs.Talks.{Party, party, AnswersTo, IsAnswered, IsRefused, IsHalted, IsCut}
use Rattle.port_sessions.specs.OnTheWay.{IsOnTheWay}

module _ (start : World) (now : ℕ) (most : ℕ) (stream : List ℕ) (p : Party) where
  -- all values of the stream were answered, of which no more may store
  pub record IsFinished (held bytes : List ℕ) (q : Party) : Type 0 where
    pub answered : IsAnswered start now stream p held bytes q
    pub few : stores_among answered.values ≤ most

  -- values of the stream were answered, so many of which may store, and the next one may too: the bytes from that on are held
  pub record IsPutOff (held bytes : List ℕ) (q : Party) : Type 0 where
    pub values : List Frame
    pub parts : Parts stream values held
    pub answers : AnswersTo start now p values bytes q
    pub all : stores_among values ≡ most
    pub next : IsStoreNext held

  -- a fault came, and no more of the values that were answered may store
  abbrev pub BreaksWithin : ServeFault → (bytes : List ℕ) → Party → Type 0
  BreaksWithin (FaultyFrame fault) bytes q = (it : IsRefused start now stream fault p bytes q) × (stores_among it.values ≤ most)
  BreaksWithin ServeHalted bytes q = (it : IsHalted start now stream p bytes q) × (stores_among it.values ≤ most)
  BreaksWithin OutOfMemory bytes q = (it : IsCut start now stream p bytes q) × (stores_among it.values ≤ most)
  BreaksWithin Read bytes q = ⊥
  BreaksWithin Write bytes q = ⊥

  -- how such a call ends, whatever is unsent; a session that ended listens to nothing
  abbrev pub GoesOn : Result Reach ServeFault → (held bytes : List ℕ) → Party → Type 0
  GoesOn (Ok Done) held bytes q = IsFinished held bytes q
  GoesOn (Ok Waits) held bytes q = IsPutOff held bytes q
  GoesOn (Ok Full) held bytes q = ⊥
  GoesOn (Err fault) held bytes q = (q.listens ≡ None) × (listened : Option ℕ) × BreaksWithin fault bytes (party q.view listened)

  -- ---- within the call

  -- values were answered, and so many more may be that store
  pub record IsWithin (more : ℕ) (held : Held) (bytes : List ℕ) (q : Party) : Type 0 where
    pub so_far : IsOnTheWay start now stream p held bytes q
    pub count : stores_among so_far.values + more ≡ most

  -- all values were answered, or the next one is put off
  abbrev pub Stops : Reach → Held → (bytes : List ℕ) → Party → Type 0
  Stops Done held bytes q = (rest : List ℕ) × (held ≡ reading rest) × IsFinished rest bytes q
  Stops Waits held bytes q = (rest : List ℕ) × (held ≡ reading rest) × IsPutOff rest bytes q
  Stops Full held bytes q = ⊥

  -- how the answering of the first whole value ends: it was answered, or no more are
  abbrev pub StepsWithin : Result (Option Reach) ServeFault → (more : ℕ) → Held → (bytes : List ℕ) → Party → Type 0
  StepsWithin (Ok None) more held bytes q = IsWithin more held bytes q
  StepsWithin (Ok (Some progress)) more held bytes q = Stops progress held bytes q
  StepsWithin (Err fault) more held bytes q = BreaksWithin fault bytes q

  -- how the answering of all of them ends
  abbrev pub DrainsWithin : Result Reach ServeFault → Held → (bytes : List ℕ) → Party → Type 0
  DrainsWithin (Ok progress) held bytes q = Stops progress held bytes q
  DrainsWithin (Err fault) held bytes q = BreaksWithin fault bytes q

  -- how the taking of a piece ends, before the session is closed
  abbrev pub TakesWithin : Result Reach ServeFault → (held bytes : List ℕ) → Party → Type 0
  TakesWithin (Ok Done) held bytes q = IsFinished held bytes q
  TakesWithin (Ok Waits) held bytes q = IsPutOff held bytes q
  TakesWithin (Ok Full) held bytes q = ⊥
  TakesWithin (Err fault) held bytes q = BreaksWithin fault bytes q

-- ---- the next value

-- it is taken and asks this, `fewer` more may be answered then that store, and the mark stands behind it
pub record IsAsked (more : ℕ) (before : Held) (asked : Result Command CommandFault) (fewer : ℕ) (mark after : Held) : Type 0 where
  pub asks : Asks before (Ok (Some asked)) after
  pub counts : more ≡ one_if (may_store asked) + fewer
  pub marks : mark ≡ after
  pub within : IfOk asked limits.IsWithin
  pub smaller : held_size after < held_size before

-- what stands next where `more` values may be answered that store
abbrev pub TakesAhead : (more : ℕ) → Held → Result Ahead FrameFault → (fewer : ℕ) → (mark after : Held) → Type 0
TakesAhead more before (Ok (Asked asked)) fewer mark after = IsAsked more before asked fewer mark after
TakesAhead more before (Ok PutOff) fewer mark after = (more ≡ 0) × (after ≡ before) × IsStoreNext (bytes_in before)
TakesAhead more before (Ok Short) fewer mark after = Asks before (Ok None) after
TakesAhead more before (Err fault) fewer mark after = Asks before (Err fault) after
