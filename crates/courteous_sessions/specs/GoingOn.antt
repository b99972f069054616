-- How a piece is taken by a call that answers so many values that may store, and no more, and stops once so much is unsent.
use Rattle.std.specs.Prelude.{◌≡◌, ◌⊎◌, ◌≤◌, ◌<◌, ◌+◌, ◌++◌, ℕ, false, Option, None, Some, List, Result, Ok, Err, length}
use Rattle.std.specs.Borrow.{Bor}
use Rattle.ballot_law.specs.declared.commands.Command.{Command}
use Rattle.ballot_law.specs.Limits as limits
use Rattle.pubsub.specs.Listening.{Listening, is_listening}
use Rattle.client_commands.specs.Attendants.{TakesCommon}
use Rattle.client_commands.specs.Courtesies.{ClientInfo, is_stranger}
use Rattle.client_commands.specs.Lines.{Reads, Answers}
use Rattle.port_sessions.specs.declared.limit.Reach.{Reach}
use Rattle.port_sessions.specs.declared.limit.Reach.TheVariants.{Done, Waits, Full}
use Rattle.port_sessions.specs.Stores.{may_store, one_if}
use Rattle.resp2.specs.Asked.{IsCommon}
use Rattle.resp2.specs.declared.framing.fault.FrameFault.{FrameFault}
use Rattle.resp2.specs.declared.framing.value.Value.{Value}
use Rattle.resp2.specs.Framing.Frame.{Frame, view, HasLines}
use Rattle.resp2.specs.Framing.Stream.{Held, reading, bytes_in, held_size}
use Rattle.sentinel_core.specs.declared.serving.fault.ServeFault.{ServeFault}
use Rattle.sentinel_core.specs.declared.serving.fault.ServeFault.TheVariants.{Frame as FaultyFrame, Read, Write, Halted as ServeHalted, NoMemory as OutOfMemory}
use Rattle.sentinel_cell.specs.declared.view.View.{View}
use Rattle.sentinel_cell.specs.Histories.{World}
use Rattle.courteous_sessions.specs.declared.going_on.NextValue.{NextValue}
use Rattle.courteous_sessions.specs.declared.going_on.NextValue.TheVariants.{Common, Any, PutOff, Short}
use Rattle.courteous_sessions.specs.Stores.{value_may_store, stores_among, IsStoreNext}
use Rattle.courteous_sessions.specs.declared.going_on.TheConstants.{UNSENT_MAX}
use Rattle.courteous_sessions.specs.Visits.{Guest, Tells, ServesAll, IsAnswered, IsRefused, IsCut}
use Rattle.courteous_sessions.specs.OnTheWay.{IsOnTheWay}

module _ (start : World) (now : ℕ) (most : ℕ) (stream : List ℕ) (g : Guest) where
  -- all values of the stream were answered, of which no more may store
  pub record IsFinished (held bytes : List ℕ) (h : Guest) : Type 0 where
    pub answered : IsAnswered start now stream g held bytes h
    pub few : stores_among answered.values ≤ most

  -- values of the stream were answered, so many of which may store, and the next one may too: the bytes from that on are held
  pub record IsPutOff (held bytes : List ℕ) (h : Guest) : Type 0 where
    pub values : List Frame
    pub parts : Reads stream values held
    pub answers : ServesAll start now g values bytes h
    pub all : stores_among values ≡ most
    pub next : IsStoreNext held

  -- values of the stream were answered, of which no more may store, and so much is unsent that the others wait: the bytes after those that were answered are held
  pub record IsFull (held bytes : List ℕ) (h : Guest) : Type 0 where
    pub values : List Frame
    pub parts : Reads stream values held
    pub answers : ServesAll start now g values bytes h
    pub few : stores_among values ≤ most

  -- a fault came, and no more of the values that were answered may store
  abbrev pub BreaksWithin : ServeFault → (bytes : List ℕ) → View → Type 0
  BreaksWithin (FaultyFrame fault) bytes w = (it : IsRefused start now stream fault g bytes w) × (stores_among it.values ≤ most)
  BreaksWithin ServeHalted bytes w = (it : IsCut start now stream g ServeHalted bytes w) × (stores_among it.values ≤ most)
  BreaksWithin OutOfMemory bytes w = (it : IsCut start now stream g OutOfMemory bytes w) × (stores_among it.values ≤ most)
  BreaksWithin Read bytes w = ⊥
  BreaksWithin Write bytes w = ⊥

  -- how such a call ends
  abbrev pub GoesOn : Result Reach ServeFault → (held bytes : List ℕ) → Guest → Type 0
  GoesOn (Ok Done) held bytes h = IsFinished held bytes h
  GoesOn (Ok Waits) held bytes h = IsPutOff held bytes h
  GoesOn (Ok Full) held bytes h = IsFull held bytes h
  GoesOn (Err fault) held bytes h = BreaksWithin fault bytes h.party.view

  -- ---- within the call

  -- values were answered, and so many more may be that store
  pub record IsWithin (more : ℕ) (held : Held) (bytes : List ℕ) (h : Guest) : Type 0 where
    pub so_far : IsOnTheWay start now stream g held bytes h
    pub count : stores_among so_far.values + more ≡ most

  -- all values were answered, or the next one is put off, or all that come next are
  abbrev pub Stops : Reach → Held → (bytes : List ℕ) → Guest → Type 0
  Stops Done held bytes h = (rest : List ℕ) × (held ≡ reading rest) × IsFinished rest bytes h
  Stops Waits held bytes h = (rest : List ℕ) × (held ≡ reading rest) × IsPutOff rest bytes h
  Stops Full held bytes h = (rest : List ℕ) × (held ≡ reading rest) × IsFull rest bytes h

  -- how the answering of the first whole value ends: it was answered, or no more are
  abbrev pub StepsWithin : Result (Option Reach) ServeFault → (more : ℕ) → Held → (bytes : List ℕ) → Guest → Type 0
  StepsWithin (Ok None) more held bytes h = IsWithin more held bytes h
  StepsWithin (Ok (Some progress)) more held bytes h = Stops progress held bytes h
  StepsWithin (Err fault) more held bytes h = BreaksWithin fault bytes h.party.view

  -- how the answering of all of them ends
  abbrev pub DrainsWithin : Result Reach ServeFault → Held → (bytes : List ℕ) → Guest → Type 0
  DrainsWithin (Ok progress) held bytes h = Stops progress held bytes h
  DrainsWithin (Err fault) held bytes h = BreaksWithin fault bytes h.party.view

  -- how the answering of the first command of a piece ends, where it stands, of which `rest` comes still: it was answered, or it is none that is answered so
  abbrev pub StepsInPlace : Result (Option (Bor (List ℕ))) ServeFault → (rest bytes : List ℕ) → Guest → Type 0
  StepsInPlace (Ok (Some more)) rest bytes h = IsWithin most (reading more.now) bytes h
  StepsInPlace (Ok None) rest bytes h = IsWithin most (reading rest) bytes h
  StepsInPlace (Err fault) rest bytes h = BreaksWithin fault bytes h.party.view

  -- and of all of them, where `held` is what was held before the piece
  abbrev pub DrainsInPlace : Result (Bor (List ℕ)) ServeFault → (held bytes : List ℕ) → Guest → Type 0
  DrainsInPlace (Ok rest) held bytes h = IsWithin most (reading (held ++ rest.now)) bytes h
  DrainsInPlace (Err fault) held bytes h = BreaksWithin fault bytes h.party.view

-- ---- how much is left unsent

-- the answer to one value joined what was unsent
pub record AddsAnswer (start : World) (now : ℕ) (unsent left : List ℕ) : Type 0 where
  pub g : Guest
  pub value : Frame
  pub answer : List ℕ
  pub h : Guest
  pub left_is : left ≡ unsent ++ answer
  pub tells : Tells start now g value answer h

-- nothing joined it, or so little was unsent before the last answer that there was room for one more: so what is unsent is longer than UNSENT_MAX by less than one answer
abbrev pub StopsInTime : World → (now : ℕ) → (unsent left : List ℕ) → Type 0
StopsInTime start now unsent left = (left ≡ unsent) ⊎ ((front : List ℕ) × (length front < UNSENT_MAX) × AddsAnswer start now front left)

-- what one step adds: one answer, or nothing where no more are given; how much is unsent ends none
abbrev pub AddsNext : World → (now : ℕ) → Option Reach → (unsent left : List ℕ) → Type 0
AddsNext start now None unsent left = AddsAnswer start now unsent left
AddsNext start now (Some Done) unsent left = left ≡ unsent
AddsNext start now (Some Waits) unsent left = left ≡ unsent
AddsNext start now (Some Full) unsent left = ⊥

abbrev pub AddsInPlace : {X : Type 0} → World → (now : ℕ) → Option X → (unsent left : List ℕ) → Type 0
AddsInPlace start now (Some rest) unsent left = AddsAnswer start now unsent left
AddsInPlace start now None unsent left = left ≡ unsent

-- whoever stops since so much is unsent has so much unsent
abbrev pub IsFullOf : {F : Type 0} → Result Reach F → (left : List ℕ) → Type 0
IsFullOf (Ok Full) left = UNSENT_MAX ≤ length left
IsFullOf (Ok Done) left = Unit {0}
IsFullOf (Ok Waits) left = Unit {0}
IsFullOf (Err fault) left = Unit {0}

-- ---- the next value

-- a command that comes nearly always is taken of a connection that listens to nothing, of whose client no password is wanted: `fewer` more may be answered then that store,
-- and the mark stands after it
pub record IsCommonAhead (asker : ClientInfo) (l : Listening) (more : ℕ) (before : Held) (command : Command) (fewer : ℕ) (mark after : Held) : Type 0 where
  pub taken : TakesCommon before after command
  pub common : IsCommon command
  pub within : limits.IsWithin command
  pub known : is_stranger asker ≡ false
  pub quiet : is_listening l ≡ false
  pub counts : more ≡ one_if (may_store (Ok command)) + fewer
  pub marks : mark ≡ after
  pub smaller : held_size after < held_size before

-- the same of another value
pub record IsValueAhead (more : ℕ) (before : Held) (value : Value) (fewer : ℕ) (mark after : Held) : Type 0 where
  pub given : Answers view before (Ok (Some value)) after
  pub lines : HasLines (view value)
  pub counts : more ≡ one_if (value_may_store (view value)) + fewer
  pub marks : mark ≡ after
  pub smaller : held_size after < held_size before

-- what stands next where `more` values may be answered that store
abbrev pub TakesAhead : ClientInfo → Listening → (more : ℕ) → Held → Result NextValue FrameFault → (fewer : ℕ) → (mark after : Held) → Type 0
TakesAhead asker l more before (Ok (Common command)) fewer mark after = IsCommonAhead asker l more before command fewer mark after
TakesAhead asker l more before (Ok (Any value)) fewer mark after = IsValueAhead more before value fewer mark after
TakesAhead asker l more before (Ok PutOff) fewer mark after = (more ≡ 0) × (after ≡ before) × IsStoreNext (bytes_in before)
TakesAhead asker l more before (Ok Short) fewer mark after = Answers {V = Value} view before (Ok None) after
TakesAhead asker l more before (Err fault) fewer mark after = Answers {V = Value} view before (Err fault) after
