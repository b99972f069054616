-- What a RESP2 value is, apart from where its bytes lie, and its one spelling.
use Rattle.std.specs.Prelude.{◌≢◌, ℕ, suc, max, ℤ, pos, negsuc, ◌<◌, ◌≤◌, ◌^◌, List, [], ◌∷◌, ◌++◌, length, map, decimal}
use Rattle.std.specs.Fmt.{signed_decimal}
use Rattle.std.specs.List.{AllByRecursion}
use Rattle.resp2.specs.declared.framing.value.Value.{Value, fold-Value}
use Rattle.resp2.specs.declared.framing.value.Value.TheOpen.{Value-F}

mutual
  pub data Frame : Type 0 where
    simple : List ℕ → Frame
    fault : List ℕ → Frame
    int : ℤ → Frame
    bulk : List ℕ → Frame
    null_bulk : Frame
    items : FrameList → Frame
    null_items : Frame

  pub data FrameList : Type 0 where
    no_frames : FrameList
    frame : Frame → FrameList → FrameList

-- ---- a Rust value, seen as a frame

abbrev pub frames_of : List Frame → FrameList
frames_of [] = no_frames
frames_of (f ∷ fs) = frame f (frames_of fs)

-- one level, with each value inside already seen as its frame
abbrev pub view_step : Value-F Frame → Frame
view_step (Value-F.Simple t) = simple t
view_step (Value-F.Fault t) = fault t
view_step (Value-F.Int n) = int n
view_step (Value-F.Bulk b) = bulk b
view_step Value-F.NullBulk = null_bulk
view_step (Value-F.Items v) = items (frames_of v.items)
view_step Value-F.NullItems = null_items

abbrev pub view : Value → Frame
view = fold-Value Frame view_step

abbrev pub frames_view : List Value → FrameList
frames_view vs = frames_of (map view vs)

-- ---- the spelling

abbrev pub line_end : List ℕ
line_end = 13 ∷ 10 ∷ []

abbrev pub count : FrameList → ℕ
count no_frames = 0
count (frame f fs) = suc (count fs)

abbrev mutual
  pub spelling : Frame → List ℕ
  spelling (simple text) = 43 ∷ (text ++ line_end)
  spelling (fault text) = 45 ∷ (text ++ line_end)
  spelling (int n) = 58 ∷ (signed_decimal n ++ line_end)
  spelling (bulk bytes) = 36 ∷ ((decimal (length bytes) ++ line_end) ++ (bytes ++ line_end))
  spelling null_bulk = 36 ∷ 45 ∷ 49 ∷ line_end
  spelling (items fs) = 42 ∷ ((decimal (count fs) ++ line_end) ++ spellings fs)
  spelling null_items = 42 ∷ 45 ∷ 49 ∷ line_end

  pub spellings : FrameList → List ℕ
  spellings no_frames = []
  spellings (frame f fs) = spelling f ++ spellings fs

-- ---- which values have a spelling that is a frame

-- the bytes of a line: no CR and no LF
abbrev pub IsLine : List ℕ → Type 0
IsLine text = AllByRecursion (λ b. (b ≢ 13) × (b ≢ 10)) text

-- no line of the value holds a CR or LF
abbrev mutual
  pub HasLines : Frame → Type 0
  HasLines (simple text) = IsLine text
  HasLines (fault text) = IsLine text
  HasLines (items fs) = HaveLines fs
  HasLines _ = Unit {0}

  pub HaveLines : FrameList → Type 0
  HaveLines no_frames = Unit {0}
  HaveLines (frame f fs) = HasLines f × HaveLines fs

-- 64 bits with a sign
abbrev pub IsLong : ℤ → Type 0
IsLong (pos n) = n < 2 ^ 63
IsLong (negsuc n) = n < 2 ^ 63

-- lines hold no CR or LF, and numbers and lengths are those of 64 bits
abbrev mutual
  pub IsPlain : Frame → Type 0
  IsPlain (simple text) = IsLine text
  IsPlain (fault text) = IsLine text
  IsPlain (int n) = IsLong n
  IsPlain (bulk bytes) = length bytes < 2 ^ 64
  IsPlain null_bulk = Unit {0}
  IsPlain (items fs) = (count fs < 2 ^ 64) × ArePlain fs
  IsPlain null_items = Unit {0}

  pub ArePlain : FrameList → Type 0
  ArePlain no_frames = Unit {0}
  ArePlain (frame f fs) = IsPlain f × ArePlain fs

-- how deep arrays nest: a frame that holds none is 1 deep
abbrev mutual
  pub depth_of : Frame → ℕ
  depth_of (items fs) = suc (deepest_of fs)
  depth_of _ = 1

  pub deepest_of : FrameList → ℕ
  deepest_of no_frames = 0
  deepest_of (frame f fs) = max (depth_of f) (deepest_of fs)

-- how many items the longest array of a frame has
abbrev mutual
  pub width_of : Frame → ℕ
  width_of (items fs) = max (count fs) (widest_of fs)
  width_of _ = 0

  pub widest_of : FrameList → ℕ
  widest_of no_frames = 0
  widest_of (frame f fs) = max (width_of f) (widest_of fs)

-- the values that a stream may hold
pub record IsFrame (f : Frame) : Type 0 where
  pub plain : IsPlain f
  pub depth : depth_of f ≤ 8
  pub width : width_of f ≤ 1024
  pub size : length (spelling f) ≤ 65536
