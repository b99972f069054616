-- A reader over a stream that comes in pieces: what it holds, what it answers, and which values a stream has.
use Rattle.std.specs.Prelude.{◌≡◌, ℕ, List, [], ◌++◌, length, ◌⊎◌, Option, Some, None, Result, Ok, Err}
use Rattle.std.specs.List.{flat_map, AllByRecursion}
use Rattle.resp2.specs.declared.framing.fault.FrameFault.{FrameFault}
use Rattle.resp2.specs.declared.framing.fault.FrameFault.TheVariants.{NoMemory}
use Rattle.resp2.specs.declared.framing.fault.Unread.TheVariants.{NeedsMore, Faulty}
use Rattle.resp2.specs.Framing.Frame.{Frame, spelling, IsFrame}
use Rattle.resp2.specs.Framing.Reading.{frame_at}

-- the bytes that came and were not given yet, or the fault that was answered
pub data Held : Type 0 where
  reading : List ℕ → Held
  ended : FrameFault → Held

abbrev pub held_of : Option FrameFault → List ℕ → Held
held_of None bytes = reading bytes
held_of (Some f) bytes = ended f

-- the bytes that came and were not given yet; none behind a fault
abbrev pub bytes_in : Held → List ℕ
bytes_in (reading bytes) = bytes
bytes_in (ended fault) = []

-- what `feed` answers: the piece is added, or memory was refused and nothing changed; an ended reader answers its fault
abbrev pub Feeds : {X : Type 0} → Held → List ℕ → Result X FrameFault → Held → Type 0
Feeds (reading bytes) piece (Ok x) after = after ≡ reading (bytes ++ piece)
Feeds (reading bytes) piece (Err f) after = (f ≡ NoMemory) × (after ≡ reading bytes)
Feeds (ended fault) piece answer after = (answer ≡ Err fault) × (after ≡ ended fault)

-- what `next` answers, each value seen by view: the first value, that more bytes are needed, or the fault that shows, which ends the reader;
-- or memory was refused and nothing changed
abbrev pub Answers : {V : Type 0} → (V → Frame) → Held → Result (Option V) FrameFault → Held → Type 0
Answers view (reading bytes) (Ok (Some v)) after = (rest : List ℕ) × (frame_at bytes ≡ Ok (view v, rest)) × (after ≡ reading rest)
Answers view (reading bytes) (Ok None) after = (frame_at bytes ≡ Err NeedsMore) × (after ≡ reading bytes)
Answers view (reading bytes) (Err NoMemory) after = after ≡ reading bytes
Answers view (reading bytes) (Err f) after = (frame_at bytes ≡ Err (Faulty f)) × (after ≡ ended f)
Answers view (ended fault) answer after = (answer ≡ Err fault) × (after ≡ ended fault)

-- ---- whole streams

-- the stream is these values, and then what is held
abbrev pub Parts : List ℕ → List Frame → List ℕ → Type 0
Parts stream fs rest = (stream ≡ flat_map spelling fs ++ rest) × AllByRecursion IsFrame fs

-- what is held begins with no whole value: more bytes are needed, or a fault shows
abbrev pub Ends : List ℕ → Held → Type 0
Ends rest (reading bytes) = (rest ≡ bytes) × (frame_at rest ≡ Err NeedsMore)
Ends rest (ended fault) = frame_at rest ≡ Err (Faulty fault)

-- the stream is these values, and then less than a whole one, or a fault
abbrev pub Splits : List ℕ → List Frame → Held → Type 0
Splits stream fs held = (rest : List ℕ) × Parts stream fs rest × Ends rest held

-- the values so far, with bytes behind them that are not read yet
abbrev pub SoFar : List ℕ → List Frame → Held → Type 0
SoFar stream fs held = (rest : List ℕ) × (held ≡ reading rest) × Parts stream fs rest

-- all whole values were taken, or a fault shows behind them, or memory was refused
abbrev pub Drained : {X : Type 0} → List ℕ → Result X FrameFault → List Frame → Held → Type 0
Drained stream (Ok x) fs held = (rest : List ℕ) × (held ≡ reading rest) × Parts stream fs rest × (frame_at rest ≡ Err NeedsMore)
Drained stream (Err f) fs held = (f ≡ NoMemory) ⊎ Splits stream fs (ended f)

-- how many bytes are held
abbrev pub held_size : Held → ℕ
held_size (reading bytes) = length bytes
held_size (ended fault) = 0
