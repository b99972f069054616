-- Values of which a bulk string may be long: those of a frame, and longer bulk strings, of which the whole lines of the first 65,536 bytes are told.
use Rattle.std.specs.Prelude.{◌≡◌, ℕ, suc, ◌+◌, ◌-◌, ◌≤◌, ◌&&◌, ◌⊎◌, Bool, List, [], ◌∷◌, ◌++◌, length, take, drop, replicate, Option, Some, None, Result, Ok, Err, nat_lt, nat_le, ◌==◌, if◌then◌else◌, decimal}
use Rattle.std.specs.List.{flat_map, AllByRecursion}
use Rattle.ballot_law.specs.Results.{◌>>=◌}
use Rattle.ballot_law.specs.Words.{canonical_within, then_some, some_if}
use Rattle.resp2.specs.declared.framing.fault.FrameFault.{FrameFault}
use Rattle.resp2.specs.declared.framing.fault.FrameFault.TheVariants.{NoMemory}
use Rattle.resp2.specs.declared.framing.fault.Unread.{Unread}
use Rattle.resp2.specs.declared.framing.fault.Unread.TheVariants.{NeedsMore, Faulty}
use Rattle.resp2.specs.Framing.Frame.{Frame, bulk, spelling, line_end, IsFrame}
use Rattle.resp2.specs.Framing.Reading.{line_at, end_at, frame_at}
use Rattle.resp2.specs.Framing.Stream.{Held, reading}

-- ---- what is told of a long text

-- how many bytes stand before the end of the last line that has one, its LF among them; 0 where no line has an end
abbrev pub last_end : List ℕ → ℕ
last_end [] = 0
last_end (b ∷ bs) = if nat_lt 0 (last_end bs) then suc (last_end bs) else if b == 10 then 1 else 0

abbrev pub whole_lines : List ℕ → List ℕ
whole_lines text = take (last_end text) text

-- all of a text that has at most 65,536 bytes, and of a longer one the whole lines of its first 65,536
abbrev pub told_of : List ℕ → List ℕ
told_of text = if nat_lt 65536 (length text) then whole_lines (take 65536 text) else text

abbrev pub told_value : Frame → Frame
told_value (bulk text) = bulk (told_of text)
told_value value = value

-- ---- which values may come

-- a bulk string by itself, of at most 16 MiB
abbrev pub IsLongBulk : Frame → Type 0
IsLongBulk (bulk text) = length text ≤ 16777216
IsLongBulk value = ⊥

abbrev pub IsLongFrame : Frame → Type 0
IsLongFrame value = IsFrame value ⊎ IsLongBulk value

-- the stream is these values, and then a rest
abbrev pub LongParts : List ℕ → List Frame → List ℕ → Type 0
LongParts stream values rest = (stream ≡ flat_map spelling values ++ rest) × AllByRecursion IsLongFrame values

-- ---- the first value of a stream

-- what stands before a bulk string of this size
abbrev pub header : ℕ → List ℕ
header size = 36 ∷ (decimal size ++ line_end)

-- a bulk string of this size is longer than a frame, and has at most 16 MiB
abbrev pub is_long : ℕ → Bool
is_long size = nat_lt 65536 (length (header size) + (size + 2)) && nat_le size 16777216

abbrev pub size_in : Result (List ℕ × List ℕ) Unread → Option ℕ
size_in (Ok line) = then_some (canonical_within 0 16777216 line.0) (λ size. some_if (is_long size) size)
size_in (Err why) = None

-- the size of a long bulk string that begins here, where its header is whole, which has at most 11 bytes
unfoldable pub long_size : List ℕ → Option ℕ
long_size [] = None
long_size (kind ∷ bytes) = if kind == 36 then size_in (line_at (take 10 bytes)) else None

-- the bytes behind the header
abbrev pub behind_header : ℕ → List ℕ → List ℕ
behind_header size bytes = drop (length (header size)) bytes

-- a bulk string of this size, of which is told what is told
abbrev pub long_value_in : ℕ → List ℕ → Result (Frame × List ℕ) Unread
long_value_in size bytes = if nat_lt (length bytes) size then Err NeedsMore else end_at (drop size bytes) >>= λ rest. Ok (bulk (told_of (take size bytes)), rest)

abbrev pub value_by : Option ℕ → List ℕ → Result (Frame × List ℕ) Unread
value_by (Some size) bytes = long_value_in size (behind_header size bytes)
value_by None bytes = frame_at bytes

-- what is told of the first value, and what stands behind it; or the fault that shows, or that more bytes are needed
unfoldable pub long_frame_at : List ℕ → Result (Frame × List ℕ) Unread
long_frame_at bytes = value_by (long_size bytes) bytes

-- ---- what is held of a value that hasn't come whole

-- the bytes of a text behind its first 65,536 are passed over, and stand as zeros
abbrev pub passed_over : List ℕ → List ℕ
passed_over text = take 65536 text ++ replicate (length text - 65536) 0

abbrev pub passed_in : ℕ → List ℕ → List ℕ
passed_in size bytes = passed_over (take size bytes) ++ drop size bytes

abbrev pub held_by : Option ℕ → List ℕ → List ℕ
held_by (Some size) bytes = header size ++ passed_in size (behind_header size bytes)
held_by None bytes = bytes

-- the bytes of a value that hasn't come whole, as they are held: all of them, but what a long bulk string has behind its first 65,536 bytes stands as zeros
unfoldable pub as_held : List ℕ → List ℕ
as_held bytes = held_by (long_size bytes) bytes

-- what the reader answers to these bytes, each value seen by view, and what it has then: what is told of the first value, that more bytes are needed, or the fault that
-- shows; or memory was refused. After a fault it isn't used again.
abbrev pub LongAnswers : {V : Type 0} → (V → Frame) → List ℕ → Result (Option V) FrameFault → Held → Type 0
LongAnswers view bytes (Ok (Some v)) after = (rest : List ℕ) × (long_frame_at bytes ≡ Ok (view v, rest)) × (after ≡ reading rest)
LongAnswers view bytes (Ok None) after = (long_frame_at bytes ≡ Err NeedsMore) × (after ≡ reading (as_held bytes))
LongAnswers view bytes (Err NoMemory) after = Unit {0}
LongAnswers view bytes (Err fault) after = long_frame_at bytes ≡ Err (Faulty fault)
