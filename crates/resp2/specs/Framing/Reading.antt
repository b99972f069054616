-- Reading a value from the front of a list of bytes: the value and the bytes after it, or the first fault, or that more bytes are needed.
use Rattle.std.specs.Prelude.{◌≡◌, ℕ, zero, suc, ℤ, pos, negsuc, ◌+◌, ◌-◌, ◌^◌, min, ◌&&◌, ◌||◌, List, [], ◌∷◌, ◌++◌, length, take, drop, Option, Some, None, Result, Ok, Err, nat_lt, nat_le, bytes_eq, ◌==◌, if◌then◌else◌}
use Rattle.ballot_law.specs.Results.{◌>>=◌}
use Rattle.ballot_law.specs.Words.{is_decimal, number_on}
use Rattle.resp2.specs.declared.framing.fault.FrameFault.TheVariants.{BadKind, BadLength, BadNumber, MissingEnd, TooLong, TooDeep, TooMany}
use Rattle.resp2.specs.declared.framing.fault.Unread.{Unread}
use Rattle.resp2.specs.declared.framing.fault.Unread.TheVariants.{NeedsMore, Faulty}
use Rattle.resp2.specs.declared.framing.fault.Stopped.{Stopped}
use Rattle.resp2.specs.declared.framing.fault.Stopped.TheVariants.{At, Memory}
use Rattle.resp2.specs.Framing.Frame.{Frame, FrameList, simple, fault, int, bulk, null_bulk, items, null_items, no_frames, frame}

-- What a function returned, seen by view, is what reading gives, unless memory was refused.
abbrev pub Fails : {Y : Type 0} → Stopped → Result Y Unread → Type 0
Fails (At u) read = read ≡ Err u
Fails Memory read = Unit {0}

abbrev pub Gives : {X Y : Type 0} → (X → Y) → Result X Stopped → Result Y Unread → Type 0
Gives view (Ok x) read = read ≡ Ok (view x)
Gives view (Err e) read = Fails e read

-- ---- lines

-- the bytes after the byte that must come first
abbrev pub expect : ℕ → List ℕ → Result (List ℕ) Unread
expect byte [] = Err NeedsMore
expect byte (b ∷ bs) = if b == byte then Ok bs else Err (Faulty MissingEnd)

-- the bytes after CR LF
abbrev pub end_at : List ℕ → Result (List ℕ) Unread
end_at bytes = expect 13 bytes >>= expect 10

-- how many bytes stand before the first CR or LF
abbrev pub line_length : List ℕ → ℕ
line_length [] = 0
line_length (b ∷ bs) = if (b == 13) || (b == 10) then 0 else suc (line_length bs)

unfoldable pub line_at : List ℕ → Result (List ℕ × List ℕ) Unread
line_at bytes = end_at (drop (line_length bytes) bytes) >>= λ rest. Ok (take (line_length bytes) bytes, rest)

-- ---- numbers

-- no length and no integer is as large as 2^64 - 1, which stands for all numbers from there on
unfoldable pub number_of : List ℕ → Option ℕ
number_of line = if is_decimal line then Some (min (number_on 0 line) (2 ^ 64 - 1)) else None

abbrev pub if_some : {X Y : Type 0} → Option X → (X → Y) → Y → Y
if_some (Some x) f y = f x
if_some None f y = y

-- how many bytes or items follow; None is the length -1
unfoldable pub size_of : List ℕ → Result (Option ℕ) Unread
size_of line = if_some (number_of line) (λ n. Ok (Some n)) (if bytes_eq line (45 ∷ 49 ∷ []) then Ok None else Err (Faulty BadLength))

-- a number below the limit, above 0 where the text has a sign before it
abbrev pub negative_of : List ℕ → Option ℤ
negative_of [] = None
negative_of (b ∷ bs) = if b == 45 then if_some (number_of bs) (λ n. if nat_lt 0 n && nat_le n (2 ^ 63) then Some (negsuc (n - 1)) else None) None else None

unfoldable pub integer_of : List ℕ → Option ℤ
integer_of line = if_some (number_of line) (λ n. if nat_lt n (2 ^ 63) then Some (pos n) else None) (negative_of line)

-- ---- values, behind the byte that tells their kind

unfoldable pub text_at : (List ℕ → Frame) → List ℕ → Result (Frame × List ℕ) Unread
text_at kind bytes = line_at bytes >>= λ line. Ok (kind line.0, line.1)

unfoldable pub integer_at : List ℕ → Result (Frame × List ℕ) Unread
integer_at bytes = line_at bytes >>= λ line. if_some (integer_of line.0) (λ n. Ok (int n, line.1)) (Err (Faulty BadNumber))

-- `more` bytes may come after these before the frame is too long
unfoldable pub block_at : ℕ → ℕ → List ℕ → Result (Frame × List ℕ) Unread
block_at more n bytes = if nat_lt (length bytes + more) (n + 2) then Err (Faulty TooLong) else if nat_lt (length bytes) n then Err NeedsMore else end_at (drop n bytes) >>= λ rest.
    Ok (bulk (take n bytes), rest)

unfoldable pub bulk_at : ℕ → List ℕ → Result (Frame × List ℕ) Unread
bulk_at more bytes = line_at bytes >>= λ line. size_of line.0 >>= λ size. if_some size (λ n. block_at more n line.1) (Ok (null_bulk, line.1))

unfoldable pub values_at : (List ℕ → Result (Frame × List ℕ) Unread) → ℕ → List ℕ → Result (FrameList × List ℕ) Unread
values_at inner zero bytes = Ok (no_frames, bytes)
values_at inner (suc n) bytes = inner bytes >>= λ first. values_at inner n first.1 >>= λ others. Ok (frame first.0 others.0, others.1)

unfoldable pub items_at : ℕ → (List ℕ → Result (Frame × List ℕ) Unread) → List ℕ → Result (Frame × List ℕ) Unread
items_at most inner bytes = line_at bytes >>= λ line. size_of line.0 >>= λ size. if_some size
    (λ n. if nat_lt most n then Err (Faulty TooMany) else values_at inner n line.1 >>= λ list. Ok (items list.0, list.1))
    (Ok (null_items, line.1))

unfoldable pub kind_at : ℕ → ℕ → (List ℕ → Result (Frame × List ℕ) Unread) → ℕ → List ℕ → Result (Frame × List ℕ) Unread
kind_at most more inner kind bytes =
    if kind == 43 then text_at simple bytes else if kind == 45 then text_at fault bytes else if kind == 58 then integer_at bytes else if kind == 36 then bulk_at more bytes
    else if kind == 42 then items_at most inner bytes else Err (Faulty BadKind)

-- a value of at most this depth
unfoldable pub value_at : ℕ → ℕ → ℕ → List ℕ → Result (Frame × List ℕ) Unread
value_at most more zero [] = Err NeedsMore
value_at most more zero (b ∷ bs) = Err (Faulty TooDeep)
value_at most more (suc depth) [] = Err NeedsMore
value_at most more (suc depth) (b ∷ bs) = kind_at most more (value_at most more depth) b bs

-- ---- the first frame of a stream

-- a frame ends within its first 65,536 bytes, or it is too long at the next one
abbrev pub in_window : List ℕ → Result (Frame × List ℕ) Unread → Result (Frame × List ℕ) Unread
in_window bytes (Ok x) = Ok (x.0, x.1 ++ drop 65536 bytes)
in_window bytes (Err NeedsMore) = if nat_lt 65536 (length bytes) then Err (Faulty TooLong) else Err NeedsMore
in_window bytes (Err (Faulty f)) = Err (Faulty f)

unfoldable pub frame_at : List ℕ → Result (Frame × List ℕ) Unread
frame_at bytes = in_window bytes (value_at 1024 (65536 - length bytes) 8 (take 65536 bytes))

-- a reading is the same with the bytes p behind it, unless it needs more bytes
abbrev pub Stays : {A : Type 0} → List ℕ → Result (A × List ℕ) Unread → Result (A × List ℕ) Unread → Type 0
Stays p (Ok x) longer = longer ≡ Ok (x.0, x.1 ++ p)
Stays p (Err NeedsMore) longer = Unit {0}
Stays p (Err (Faulty f)) longer = longer ≡ Err (Faulty f)
