-- What is spelled so is read, whatever follows it.
use Rattle.std.proofs.Common.{◌≡◌, ℕ, suc, zero, ◌+◌, ◌^◌, ◌<◌, ◌≤◌, false, ltb, List, [], ◌∷◌, ◌++◌, length, Result, Ok, decimal, refl, ap, ◌∙◌, append_assoc, arith}
use Rattle.std.specs.Prelude.{ℤ}
use Rattle.std.specs.Fmt.{signed_decimal}
use Rattle.std.proofs.lemmas.Bool.{le-ltb}
use Rattle.std.proofs.lemmas.List.{take_at, drop_at, length-append}
use Rattle.resp2.specs.declared.framing.fault.Unread.{Unread}
use Rattle.resp2.specs.Framing.Frame.{Frame, FrameList, simple, fault, int, bulk, null_bulk, items, null_items, no_frames, frame, line_end, count, spelling, spellings, IsLine, IsLong, IsPlain, ArePlain, depth_of, deepest_of, width_of, widest_of}
use Rattle.resp2.specs.Framing.Reading.{text_at, integer_at, block_at, bulk_at, values_at, items_at, kind_at, value_at}
use Rattle.resp2.proofs.FramingLemmas.Lines.{line_again}
use Rattle.resp2.proofs.FramingLemmas.Numbers.{size_again, null_again, null_line, integer_again, integer_line, decimal_line}

text_again : (kind : List ℕ → Frame) (text rest : List ℕ) → IsLine text → text_at kind ((text ++ line_end) ++ rest) ≡ Ok (kind text, rest)
unfolding text_at
text_again kind text rest h = rw (append_assoc text line_end rest, line_again text rest h) refl

integer_reads_again : (n : ℤ) (rest : List ℕ) → IsLong n → integer_at ((signed_decimal n ++ line_end) ++ rest) ≡ Ok (int n, rest)
unfolding integer_at
integer_reads_again n rest h = rw (append_assoc (signed_decimal n) line_end rest, line_again (signed_decimal n) rest (integer_line n h), integer_again n h) refl

block_again : (more : ℕ) (block rest : List ℕ) → block_at more (length block) (block ++ (line_end ++ rest)) ≡ Ok (bulk block, rest)
unfolding block_at
block_again more block rest =
    let len = length-append block (line_end ++ rest) in
    let room : ltb (length (block ++ (line_end ++ rest)) + more) (length block + 2) ≡ false = le-ltb _ _ (omega (arith, len)) in
    let enough : ltb (length (block ++ (line_end ++ rest))) (length block) ≡ false = le-ltb _ _ (omega (arith, len)) in
    rw (room, enough, drop_at block (line_end ++ rest) (length block) refl, take_at block (line_end ++ rest) (length block) refl) refl

bulk_again : (more : ℕ) (block rest : List ℕ) → length block < 2 ^ 64 → bulk_at more (((decimal (length block) ++ line_end) ++ (block ++ line_end)) ++ rest) ≡ Ok (bulk block, rest)
unfolding bulk_at
bulk_again more block rest lt =
    let n = length block in
    let regrouped : ((decimal n ++ line_end) ++ (block ++ line_end)) ++ rest ≡ decimal n ++ (line_end ++ (block ++ (line_end ++ rest))) =
    append_assoc (decimal n ++ line_end) (block ++ line_end) rest ∙ ap (λ (t : List ℕ). (decimal n ++ line_end) ++ t) (append_assoc block line_end rest)
    ∙ append_assoc (decimal n) line_end (block ++ (line_end ++ rest)) in
    rw (regrouped, line_again (decimal n) (block ++ (line_end ++ rest)) (decimal_line n lt), size_again n lt, block_again more block rest) refl

null_bulk_again : (more : ℕ) (rest : List ℕ) → bulk_at more ((45 ∷ 49 ∷ line_end) ++ rest) ≡ Ok (null_bulk, rest)
unfolding bulk_at
null_bulk_again more rest = rw (line_again (45 ∷ 49 ∷ []) rest null_line, null_again) refl

null_items_again : (most : ℕ) (inner : List ℕ → Result (Frame × List ℕ) Unread) (rest : List ℕ) → items_at most inner ((45 ∷ 49 ∷ line_end) ++ rest) ≡ Ok (null_items, rest)
unfolding items_at
null_items_again most inner rest = rw (line_again (45 ∷ 49 ∷ []) rest null_line, null_again) refl

items_again : (most : ℕ) (inner : List ℕ → Result (Frame × List ℕ) Unread) (fs : FrameList) (rest : List ℕ) → count fs < 2 ^ 64 → count fs ≤ most
    → values_at inner (count fs) (spellings fs ++ rest) ≡ Ok (fs, rest) → items_at most inner (((decimal (count fs) ++ line_end) ++ spellings fs) ++ rest) ≡ Ok (items fs, rest)
unfolding items_at
items_again most inner fs rest lt few h =
    let n = count fs in
    let regrouped : ((decimal n ++ line_end) ++ spellings fs) ++ rest ≡ decimal n ++ (line_end ++ (spellings fs ++ rest)) =
    append_assoc (decimal n ++ line_end) (spellings fs) rest ∙ append_assoc (decimal n) line_end (spellings fs ++ rest) in
    let within : ltb most n ≡ false = le-ltb _ _ few in
    rw (regrouped, line_again (decimal n) (spellings fs ++ rest) (decimal_line n lt), size_again n lt, within, h) refl

pub depth_pos : (f : Frame) → 1 ≤ depth_of f
depth_pos (items fs) = omega arith
depth_pos (simple t) = omega arith
depth_pos (fault t) = omega arith
depth_pos (int n) = omega arith
depth_pos (bulk b) = omega arith
depth_pos null_bulk = omega arith
depth_pos null_items = omega arith

mutual
  unfolding value_at kind_at values_at

  pub value_again : (f : Frame) (most more d : ℕ) (rest : List ℕ) → IsPlain f → depth_of f ≤ suc d → width_of f ≤ most →
      value_at most more (suc d) (spelling f ++ rest) ≡ Ok (f, rest)
  value_again (simple text) most more d rest plain deep wide = text_again simple text rest plain
  value_again (fault text) most more d rest plain deep wide = text_again fault text rest plain
  value_again (int n) most more d rest plain deep wide = integer_reads_again n rest plain
  value_again (bulk block) most more d rest plain deep wide = bulk_again more block rest plain
  value_again null_bulk most more d rest plain deep wide = null_bulk_again more rest
  value_again (items fs) most more d rest plain deep wide =
      items_again most (value_at most more d) fs rest plain.0 (omega arith) (values_again fs most more d rest plain.1 (omega arith) (omega arith))
  value_again null_items most more d rest plain deep wide = null_items_again most (value_at most more d) rest

  pub values_again : (fs : FrameList) (most more d : ℕ) (rest : List ℕ) → ArePlain fs → deepest_of fs ≤ d → widest_of fs ≤ most →
      values_at (value_at most more d) (count fs) (spellings fs ++ rest) ≡ Ok (fs, rest)
  values_again no_frames most more d rest plain deep wide = refl
  values_again (frame f fs) most more zero rest plain deep wide = let some = depth_pos f in absurd (omega arith)
  values_again (frame f fs) most more (suc d) rest plain deep wide =
      let regrouped = append_assoc (spelling f) (spellings fs) rest in
      let first = value_again f most more d (spellings fs ++ rest) plain.0 (omega arith) (omega arith) in
      let others = values_again fs most more (suc d) rest plain.1 (omega arith) (omega arith) in
      rw (regrouped, first, others) refl
