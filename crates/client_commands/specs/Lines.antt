-- A client's stream in which a command may come as a line, its words in place of an array of bulk strings.
use Rattle.std.specs.Prelude.{◌≡◌, ◌≤◌, ◌<◌, ℕ, suc, ◌+◌, Bool, true, false, not, ◌||◌, ◌&&◌, ◌==◌, nat_lt, nat_le, List, [], ◌∷◌, ◌++◌, map, length, take, drop, codes, Option, Some, None, Result, Ok, Err}
use Rattle.ballot_law.specs.Words.{some_if}
use Rattle.tokens.specs.Quotes.{redis_words}
use Rattle.resp2.specs.declared.framing.fault.FrameFault.{FrameFault}
use Rattle.resp2.specs.declared.framing.fault.FrameFault.TheVariants.{BadKind, NoMemory}
use Rattle.resp2.specs.declared.framing.fault.Unread.{Unread}
use Rattle.resp2.specs.declared.framing.fault.Unread.TheVariants.{NeedsMore, Faulty}
use Rattle.resp2.specs.Framing.Frame.{Frame, bulk, items, frames_of, view, spelling}
use Rattle.resp2.specs.Framing.Reading.{frame_at}
use Rattle.resp2.specs.Framing.Stream.{Held, reading, ended}
use Rattle.client_commands.specs.declared.lines.Line.{Line}
use Rattle.client_commands.specs.declared.lines.Line.TheVariants.{Whole, Open, Broken}
use Rattle.client_commands.specs.Refusals.{is_called}

-- ---- the words of a line

-- the array that has these words
abbrev pub array_of : List (List ℕ) → Frame
array_of words = items (frames_of (map bulk words))

-- a request of HTTP has such lines, which no client of a Sentinel sends
abbrev pub is_web : List (List ℕ) → Bool
is_web [] = false
is_web (word ∷ words) = is_called (codes "post") word || is_called (codes "host:") word

-- a stream may hold the array
abbrev pub is_short : List (List ℕ) → Bool
is_short words = nat_le (length words) 1024 && nat_le (length (spelling (array_of words))) 65536

abbrev pub command_in : List (List ℕ) → Option Frame
command_in words = some_if (not (is_web words) && is_short words) (array_of words)

-- the array of a line's words; none where its quotes are wrong, where a stream may not hold the array, and where a request of HTTP has the line
abbrev pub command_of_line : (line : List ℕ) → Option Frame
command_of_line line = elim (redis_words line) as (λ _. Option Frame) [ Some words ↦ command_in words | None ↦ None ]

-- ---- the first value of a stream

-- the bytes with which values of RESP2 begin: * $ + - :
abbrev pub is_kind : ℕ → Bool
is_kind b = (b == 42) || ((b == 36) || ((b == 43) || ((b == 45) || (b == 58))))

-- a stream with these bytes begins with a line
abbrev pub begins_line : List ℕ → Bool
begins_line [] = false
begins_line (b ∷ bs) = not (is_kind b)

-- how many bytes come before the first LF; all of them where there is none
abbrev pub line_size : List ℕ → ℕ
line_size [] = 0
line_size (b ∷ bs) = elim (b == 10) [ true ↦ 0 | false ↦ suc (line_size bs) ]

-- a command with the bytes after it; a line that is none shows the fault that its first byte is in RESP2
abbrev pub read_as : Option Frame → (rest : List ℕ) → Result (Frame × List ℕ) Unread
read_as None rest = Err (Faulty BadKind)
read_as (Some value) rest = Ok (value, rest)

-- a line ends at its first LF, before which it has at most 65,536 bytes; a CR before that is one of its spaces
abbrev pub line_at : List ℕ → Result (Frame × List ℕ) Unread
line_at bytes =
    elim (nat_lt 65536 (line_size bytes)) as (λ _. Result (Frame × List ℕ) Unread) [
      | true ↦ Err (Faulty BadKind)
      | false ↦ elim (nat_lt (line_size bytes) (length bytes)) as (λ _. Result (Frame × List ℕ) Unread) [
        | true ↦ read_as (command_of_line (take (line_size bytes) bytes)) (drop (line_size bytes + 1) bytes)
        | false ↦ Err NeedsMore
      ]
    ]

-- The first value and the bytes after it, or the first fault, or that more bytes are needed: as in RESP2, but that a line stands for the array of its words
unfoldable pub value_at : List ℕ → Result (Frame × List ℕ) Unread
value_at bytes = elim (begins_line bytes) as (λ _. Result (Frame × List ℕ) Unread) [ true ↦ line_at bytes | false ↦ frame_at bytes ]

-- the bytes begin with a line that has the words of the value
pub record IsLineOf (bytes : List ℕ) (value : Frame) (rest : List ℕ) : Type 0 where
  pub line : List ℕ
  pub words : List (List ℕ)
  pub text : bytes ≡ line ++ 10 ∷ rest
  pub words_are : redis_words line ≡ Some words
  pub value_is : value ≡ array_of words

-- ---- whole streams

-- the stream is these values, in their order, and then these bytes
abbrev pub Reads : (stream : List ℕ) → List Frame → (rest : List ℕ) → Type 0
Reads stream [] rest = stream ≡ rest
Reads stream (value ∷ values) rest = (more : List ℕ) × (value_at stream ≡ Ok (value, more)) × Reads more values rest

-- what is held begins with no whole value: more bytes are needed, or a fault shows
abbrev pub Stops : (rest : List ℕ) → Held → Type 0
Stops rest (reading bytes) = (rest ≡ bytes) × (value_at rest ≡ Err NeedsMore)
Stops rest (ended fault) = value_at rest ≡ Err (Faulty fault)

-- the stream is these values, in their order, and then less than a whole one, or a fault
abbrev pub Holds : (stream : List ℕ) → List Frame → Held → Type 0
Holds stream values held = (rest : List ℕ) × Reads stream values rest × Stops rest held

-- ---- the reader of a stream

-- the line with which these bytes begin was found so
abbrev pub IsFound : Line → (bytes : List ℕ) → Type 0
IsFound (Whole value size) bytes = (0 < size) × (size ≤ length bytes) × (line_at bytes ≡ Ok (view value, drop size bytes))
IsFound Open bytes = line_at bytes ≡ Err NeedsMore
IsFound Broken bytes = line_at bytes ≡ Err (Faulty BadKind)

-- what a reader answers, each value seen by `view`: the first value, that more bytes are needed, or the fault that shows, which ends the reader; or memory was refused and
-- nothing changed
abbrev pub Answers : {V : Type 0} → (V → Frame) → Held → Result (Option V) FrameFault → Held → Type 0
Answers view (reading bytes) (Ok (Some v)) after = (rest : List ℕ) × (value_at bytes ≡ Ok (view v, rest)) × (after ≡ reading rest)
Answers view (reading bytes) (Ok None) after = (value_at bytes ≡ Err NeedsMore) × (after ≡ reading bytes)
Answers view (reading bytes) (Err NoMemory) after = after ≡ reading bytes
Answers view (reading bytes) (Err f) after = (value_at bytes ≡ Err (Faulty f)) × (after ≡ ended f)
Answers view (ended fault) answer after = (answer ≡ Err fault) × (after ≡ ended fault)
