-- The command at the front of the bytes of a client: an array of bulk strings, or a line of words.
use Rattle.std.specs.Prelude.{ℕ, suc, ◌+◌, Bool, true, false, ◌&&◌, ◌||◌, ◌==◌, nat_lt, List, [], ◌∷◌, ◌++◌, length, take, drop, Option, Some, None, Result, Ok, Err}
use Rattle.ballot_law.specs.Words.{some_if}
use Rattle.resp2.specs.Commands as commands
use Rattle.resp2.specs.declared.framing.fault.Unread.{Unread}
use Rattle.resp2.specs.declared.framing.fault.Unread.TheVariants.{NeedsMore, Faulty}
use Rattle.resp2.specs.Framing.Frame.{Frame, items, null_items}
use Rattle.resp2.specs.Framing.Reading.{frame_at}
use Rattle.data_node_port.specs.declared.readings.TheConstants.{COMMAND_MAX}

-- what stands at the front: the words of a command, and the bytes after it; that more bytes are needed; or what no command begins with
pub data Turn : Type 0 where
  asks : (words : List (List ℕ)) → (rest : List ℕ) → Turn
  waits : Turn
  broken : Turn

-- ---- arrays

-- an array of bulk strings; the null array is one of no words
abbrev pub words_of : Frame → Option (List (List ℕ))
words_of (items fs) = some_if (commands.are_bulk fs) (commands.words fs)
words_of null_items = Some []
words_of _ = None

abbrev pub turn_of : Option (List (List ℕ)) → (rest : List ℕ) → Turn
turn_of None rest = broken
turn_of (Some words) rest = asks words rest

abbrev pub turn_of_frame : Result (Frame × List ℕ) Unread → Turn
turn_of_frame (Ok x) = turn_of (words_of x.0) x.1
turn_of_frame (Err NeedsMore) = waits
turn_of_frame (Err (Faulty fault)) = broken

-- ---- lines

-- how many bytes stand before the first LF; all where there is none
abbrev pub before_end : List ℕ → ℕ
before_end [] = 0
before_end (b ∷ bs) = elim (b == 10) [ true ↦ 0 | false ↦ suc (before_end bs) ]

-- what stands between the words of a line: blanks, and the CR before its LF
abbrev pub is_blank : ℕ → Bool
is_blank b = (b == 32) || ((b == 9) || (b == 13))

abbrev pub with_word : List ℕ → List (List ℕ) → List (List ℕ)
with_word [] words = words
with_word (b ∷ bs) words = (b ∷ bs) ∷ words

-- the words of a line, of whose first one these bytes came already
abbrev pub inline_words : (begun : List ℕ) → List ℕ → List (List ℕ)
inline_words begun [] = with_word begun []
inline_words begun (b ∷ bs) = elim (is_blank b) [ true ↦ with_word begun (inline_words [] bs) | false ↦ inline_words (begun ++ b ∷ []) bs ]

-- how a line goes on whose LF is after so many bytes, where it has one among its first 65,536
abbrev pub line_by : (has_end is_short : Bool) → (end : ℕ) → List ℕ → Turn
line_by true is_short end bytes = asks (inline_words [] (take end bytes)) (drop (end + 1) bytes)
line_by false true end bytes = waits
line_by false false end bytes = broken

unfoldable pub inline_at : List ℕ → Turn
inline_at bytes =
    line_by (nat_lt (before_end bytes) (length bytes) && nat_lt (before_end bytes) COMMAND_MAX) (nat_lt (length bytes) COMMAND_MAX) (before_end bytes) bytes

-- ---- both

abbrev pub turn_by : (is_array : Bool) → List ℕ → Turn
turn_by true bytes = turn_of_frame (frame_at bytes)
turn_by false bytes = inline_at bytes

-- an array begins with `*`, and everything else is a line
abbrev pub turn_at : List ℕ → Turn
turn_at [] = waits
turn_at (b ∷ bs) = turn_by (b == 42) (b ∷ bs)
