-- Which bytes may still become a frame, and which fault shows where they can't: the grammar as a table, apart from any reader.
use Rattle.std.specs.Prelude.{◌≡◌, ◌≢◌, ℕ, zero, suc, ◌+◌, ◌<◌, ◌≤◌, ◌⊎◌, ℤ, true, false, List, [], ◌∷◌, ◌++◌, length, take, decimal}
use Rattle.std.specs.Fmt.{signed_decimal}
use Rattle.ballot_law.specs.Words.{is_decimal, number_on}
use Rattle.resp2.specs.declared.framing.fault.FrameFault.{FrameFault}
use Rattle.resp2.specs.declared.framing.fault.FrameFault.TheVariants.{BadKind, BadLength, BadNumber, MissingEnd, TooLong, TooDeep, TooMany, NoMemory}
use Rattle.resp2.specs.Framing.Frame.{FrameList, line_end, count, spellings, IsLine, IsLong, ArePlain, deepest_of, widest_of}

-- ---- where a value begins

-- an array that has begun: how many items it has, and those that are whole
pub record OpenArray : Type 0 where
  pub size : ℕ
  pub whole : FrameList

-- its bytes so far
abbrev pub opening : OpenArray → List ℕ
opening array = 42 ∷ ((decimal array.size ++ line_end) ++ spellings array.whole)

-- an item is to come, and those that came may stand in an array with so many levels below it
pub record IsOpen (levels : ℕ) (array : OpenArray) : Type 0 where
  pub few : array.size ≤ 1024
  pub more : count array.whole < array.size
  pub plain : ArePlain array.whole
  pub deep : deepest_of array.whole ≤ levels
  pub wide : widest_of array.whole ≤ 1024

-- Here holds where a value begins: at the front of the bytes, or at the next item of an array that began there. It is told how many levels
-- are left for that value, how many bytes of the frame stand before it, and the bytes from it on.
abbrev pub Within : (ℕ → ℕ → List ℕ → Type 0) → ℕ → ℕ → List ℕ → Type 0
Within Here zero before bytes = Here zero before bytes
Within Here (suc levels) before bytes =
    Here (suc levels) before bytes
    ⊎ ((array : OpenArray) × (rest : List ℕ) × (bytes ≡ opening array ++ rest) × IsOpen levels array × Within Here levels (before + length (opening array)) rest)

-- ---- kinds, ends and lengths

-- `+`, `-`, `:`, `$` and `*`
abbrev pub IsKind : ℕ → Type 0
IsKind kind = (kind ≡ 43) ⊎ ((kind ≡ 45) ⊎ ((kind ≡ 58) ⊎ ((kind ≡ 36) ⊎ (kind ≡ 42))))

-- nothing, or a CR or LF and what follows it: what may stand behind a line's text
abbrev pub IsBehindLine : List ℕ → Type 0
IsBehindLine [] = Unit {0}
IsBehindLine (b ∷ bs) = (b ≡ 13) ⊎ (b ≡ 10)

-- CR LF hasn't come whole
abbrev pub BeginsEnd : List ℕ → Type 0
BeginsEnd [] = Unit {0}
BeginsEnd (b ∷ []) = b ≡ 13
BeginsEnd (b ∷ c ∷ bs) = ⊥

-- another byte stands in the place of the CR or of the LF
abbrev pub BreaksEnd : List ℕ → Type 0
BreaksEnd [] = ⊥
BreaksEnd (b ∷ []) = b ≢ 13
BreaksEnd (b ∷ c ∷ bs) = (b ≢ 13) ⊎ ((b ≡ 13) × (c ≢ 10))

-- how many bytes a frame has with a bulk string of this length, behind so many bytes of the frame
abbrev pub with_bulk : ℕ → List ℕ → ℕ
with_bulk before digits = before + 1 + length digits + 2 + number_on 0 digits + 2

-- ---- a value that begins here

-- the text of a line, and what stands behind it
pub record LineAt (bytes : List ℕ) : Type 0 where
  pub kind : ℕ
  pub line : List ℕ
  pub end : List ℕ
  pub is : bytes ≡ kind ∷ (line ++ end)
  pub is_kind : IsKind kind
  pub is_line : IsLine line

-- the length of a bulk string for which a frame has room, some bytes of it, and what stands behind them
pub record BulkAt (before : ℕ) (bytes : List ℕ) : Type 0 where
  pub digits : List ℕ
  pub block : List ℕ
  pub end : List ℕ
  pub is : bytes ≡ 36 ∷ (digits ++ (line_end ++ (block ++ end)))
  pub is_length : is_decimal digits ≡ true
  pub fits : with_bulk before digits ≤ 65536

-- ---- a value that has begun, and no fault shows

abbrev pub BeginsLine : List ℕ → Type 0
BeginsLine bytes = (at : LineAt bytes) × BeginsEnd at.end

abbrev pub BeginsBulk : ℕ → List ℕ → Type 0
BeginsBulk before bytes = (at : BulkAt before bytes)
    × (((length at.block < number_on 0 at.digits) × (at.end ≡ [])) ⊎ ((length at.block ≡ number_on 0 at.digits) × BeginsEnd at.end))

-- nothing of a value, a line, or the bytes of a bulk string
abbrev pub Begins : ℕ → ℕ → List ℕ → Type 0
Begins levels before bytes = (bytes ≡ []) ⊎ ((0 < levels) × (BeginsLine bytes ⊎ BeginsBulk before bytes))

-- ---- the faults

abbrev pub BreaksLine : List ℕ → Type 0
BreaksLine bytes = (at : LineAt bytes) × IsBehindLine at.end × BreaksEnd at.end

abbrev pub BreaksBulk : ℕ → List ℕ → Type 0
BreaksBulk before bytes = (at : BulkAt before bytes) × (length at.block ≡ number_on 0 at.digits) × BreaksEnd at.end

-- The fault shows in a value that begins here, whatever follows: one row a fault.
abbrev pub Shows : FrameFault → ℕ → ℕ → List ℕ → Type 0
Shows BadKind levels before bytes = (kind : ℕ) × (later : List ℕ) × (0 < levels) × (bytes ≡ kind ∷ later) × ¬ IsKind kind
Shows BadLength levels before bytes =
    (kind : ℕ) × (line : List ℕ) × (later : List ℕ) × (0 < levels) × (bytes ≡ kind ∷ (line ++ (line_end ++ later))) × ((kind ≡ 36) ⊎ (kind ≡ 42))
    × IsLine line × (is_decimal line ≡ false) × (line ≢ 45 ∷ 49 ∷ [])
Shows BadNumber levels before bytes =
    (line : List ℕ) × (later : List ℕ) × (0 < levels) × (bytes ≡ 58 ∷ (line ++ (line_end ++ later))) × IsLine line × ((n : ℤ) → IsLong n → line ≢ signed_decimal n)
Shows MissingEnd levels before bytes = (0 < levels) × (BreaksLine bytes ⊎ BreaksBulk before bytes)
Shows TooLong levels before bytes =
    (digits : List ℕ) × (later : List ℕ) × (0 < levels) × (bytes ≡ 36 ∷ (digits ++ (line_end ++ later))) × (is_decimal digits ≡ true) × (65536 < with_bulk before digits)
Shows TooDeep levels before bytes = (b : ℕ) × (later : List ℕ) × (levels ≡ 0) × (bytes ≡ b ∷ later)
Shows TooMany levels before bytes =
    (digits : List ℕ) × (later : List ℕ) × (0 < levels) × (bytes ≡ 42 ∷ (digits ++ (line_end ++ later))) × (is_decimal digits ≡ true) × (1024 < number_on 0 digits)
Shows NoMemory levels before bytes = ⊥

-- ---- the front of a stream

-- the bytes may become a frame when more come
abbrev pub MayGoOn : List ℕ → Type 0
MayGoOn bytes = (length bytes ≤ 65536) × Within Begins 8 0 bytes

-- The fault shows within the bytes that a frame may have; or these may go on, and the next byte makes the frame too long.
abbrev pub IsFaulted : FrameFault → List ℕ → Type 0
IsFaulted fault bytes = Within (Shows fault) 8 0 (take 65536 bytes) ⊎ ((fault ≡ TooLong) × (65536 < length bytes) × Within Begins 8 0 (take 65536 bytes))
