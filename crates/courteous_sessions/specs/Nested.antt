-- How protocol 3 tells what COMMAND answers: each array by what it holds.
use Rattle.std.specs.Prelude.{◌++◌, ◌∷◌, ◌/◌, ◌%◌, ◌||◌, ◌&&◌, ◌==◌, ℕ, Bool, true, false, List, [], decimal}
use Rattle.resp2.specs.Framing.Frame.{Frame, FrameList, simple, fault, int, bulk, null_bulk, items, null_items, no_frames, frame, count, line_end, spelling}
use Rattle.courteous_sessions.specs.declared.nested.Manner.{Manner}
use Rattle.courteous_sessions.specs.declared.nested.Manner.TheVariants.{AsTwo, InRows, InDocs}

-- ---- what an array holds

abbrev pub is_number : Frame → Bool
is_number (int n) = true
is_number f = false

abbrev pub is_text : Frame → Bool
is_text (bulk bytes) = true
is_text f = false

abbrev pub is_list : Frame → Bool
is_list (items fs) = true
is_list f = false

abbrev pub is_odd : ℕ → Bool
is_odd n = n % 2 == 1

abbrev pub begins_with_number : FrameList → Bool
begins_with_number no_frames = false
begins_with_number (frame f fs) = is_number f

-- one text alone
abbrev pub is_one_text : FrameList → Bool
is_one_text no_frames = false
is_one_text (frame f fs) = is_text f && (count fs == 0)

-- a version and what it changed: two texts
abbrev pub is_change : FrameList → Bool
is_change no_frames = false
is_change (frame f fs) = is_text f && is_one_text fs

-- ---- the byte of an array's kind: * of an array, ~ of a set, % of a map

-- a row of COMMAND begins with a name and a number; what a row holds is a set, but for the rows of subcommands
abbrev pub kind_in_rows : FrameList → ℕ
kind_in_rows no_frames = 126
kind_in_rows (frame f fs) = elim (is_list f || begins_with_number fs) [ true ↦ 42 | false ↦ 126 ]

-- after a text: its version's change, or names and values, of which the text is the first
abbrev pub kind_after_text : FrameList → ℕ
kind_after_text fs = elim (is_one_text fs) [ true ↦ 42 | false ↦ elim (is_odd (count fs)) [ true ↦ 37 | false ↦ 42 ] ]

-- flags and changes are sets, names and values a map, arguments an array
abbrev pub kind_begun : Frame → FrameList → ℕ
kind_begun (simple line) fs = 126
kind_begun (bulk bytes) fs = kind_after_text fs
kind_begun (items gs) fs = elim (is_change gs) [ true ↦ 126 | false ↦ 42 ]
kind_begun f fs = 42

abbrev pub kind_in_docs : FrameList → ℕ
kind_in_docs no_frames = 37
kind_in_docs (frame f fs) = kind_begun f fs

abbrev pub kind_in : Manner → FrameList → ℕ
kind_in AsTwo fs = 42
kind_in InRows fs = kind_in_rows fs
kind_in InDocs fs = kind_in_docs fs

-- ---- the spelling

-- a map has half as many pairs
abbrev pub number_of : (kind count : ℕ) → ℕ
number_of kind count = elim (kind == 37) [ true ↦ count / 2 | false ↦ count ]

abbrev pub null_in : Manner → (null : List ℕ) → List ℕ
null_in AsTwo null = null
null_in InRows null = 95 ∷ line_end
null_in InDocs null = 95 ∷ line_end

abbrev mutual
  pub spelling_in : Manner → Frame → List ℕ
  spelling_in manner (simple text) = spelling (simple text)
  spelling_in manner (fault text) = spelling (fault text)
  spelling_in manner (int n) = spelling (int n)
  spelling_in manner (bulk bytes) = spelling (bulk bytes)
  spelling_in manner null_bulk = null_in manner (spelling null_bulk)
  spelling_in manner (items fs) = kind_in manner fs ∷ ((decimal (number_of (kind_in manner fs) (count fs)) ++ line_end) ++ spellings_in manner fs)
  spelling_in manner null_items = null_in manner (spelling null_items)

  pub spellings_in : Manner → FrameList → List ℕ
  spellings_in manner no_frames = []
  spellings_in manner (frame f fs) = spelling_in manner f ++ spellings_in manner fs

-- an array of rows, whatever it holds
abbrev pub rows_spelling : Frame → List ℕ
rows_spelling (items fs) = 42 ∷ ((decimal (count fs) ++ line_end) ++ spellings_in InRows fs)
rows_spelling f = spelling_in InRows f
