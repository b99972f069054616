-- Texts of the program hold no CR or LF.
use Rattle.std.proofs.Common.{◌≡◌, ◌&&◌, List, [], ◌∷◌, ℕ, map, Bool, true}
use Rattle.std.specs.List.{list_all}
use Rattle.std.proofs.lemmas.Bool.{and_parts}
use Rattle.resp2.proofs.PlainLines.{is_plain_byte, checked}
use Rattle.resp2.specs.Framing.Frame.{Frame, FrameList, simple, fault, int, bulk, null_bulk, items, null_items, no_frames, frame, frames_of, HasLines, HaveLines}

pub told_have_lines : (lines : List (List ℕ)) → list_all (λ (line : List ℕ). list_all is_plain_byte line) lines ≡ true → HaveLines (frames_of (map simple lines))
told_have_lines [] h = tt
told_have_lines (line ∷ lines) h =
    let parts = and_parts (list_all is_plain_byte line) (list_all (λ (l : List ℕ). list_all is_plain_byte l) lines) h in
    (checked line parts.0, told_have_lines lines parts.1)

pub names_lines : (names : List (List ℕ)) → HaveLines (frames_of (map bulk names))
names_lines [] = tt
names_lines (name ∷ names) = (tt, names_lines names)

-- ---- a value, by a test that computes

abbrev mutual
  pub has_plain_lines : Frame → Bool
  has_plain_lines (simple text) = list_all is_plain_byte text
  has_plain_lines (fault text) = list_all is_plain_byte text
  has_plain_lines (items fs) = have_plain_lines fs
  has_plain_lines value = true

  pub have_plain_lines : FrameList → Bool
  have_plain_lines no_frames = true
  have_plain_lines (frame f fs) = has_plain_lines f && have_plain_lines fs

mutual
  value_checked : (f : Frame) → has_plain_lines f ≡ true → HasLines f
  value_checked (simple text) h = checked text h
  value_checked (fault text) h = checked text h
  value_checked (int n) h = tt
  value_checked (bulk bytes) h = tt
  value_checked null_bulk h = tt
  value_checked (items fs) h = values_checked fs h
  value_checked null_items h = tt

  pub values_checked : (fs : FrameList) → have_plain_lines fs ≡ true → HaveLines fs
  values_checked no_frames h = tt
  values_checked (frame f fs) h =
      let both = and_parts (has_plain_lines f) (have_plain_lines fs) h in
      (value_checked f both.0, values_checked fs both.1)
