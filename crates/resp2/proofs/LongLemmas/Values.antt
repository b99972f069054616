-- Values of which a bulk string may be long: what is read is spelled so, what is spelled so is read, and what was passed over changes nothing.
use Rattle.std.proofs.Common.{◌≡◌, ℕ, ◌+◌, ◌≤◌, Bool, true, false, cond, ltb, leb, List, ◌∷◌, ◌++◌, length, take, drop, Option, Some, None, Result, Ok, decimal, refl, sym, ap, subst, ◌∙◌, append_assoc, arith, inl, inr}
use Rattle.std.proofs.lemmas.Bool.{and_from, lt-ltb, le-ltb, le-leb, ltb-false, cases_lt}
use Rattle.std.proofs.lemmas.List.{take-append-drop, length-append, length-take, drop_at, take_at}
use Rattle.ballot_law.specs.Results.{◌>>=◌}
use Rattle.resp2.specs.declared.framing.fault.Unread.{Unread}
use Rattle.resp2.specs.declared.framing.fault.Unread.TheVariants.{NeedsMore}
use Rattle.resp2.specs.Framing.Frame.{Frame, simple, fault, int, bulk, null_bulk, items, null_items, line_end, spelling, IsPlain, IsFrame}
use Rattle.resp2.specs.Framing.Reading.{end_at}
use Rattle.resp2.proofs.FramingLemmas.Lines.{end_takes}
use Rattle.resp2.proofs.FramingLemmas.Steps.{bind_ok, guard_ok, ok_is}
use Rattle.resp2.proofs.FramingLemmas.Window.{frame_found, frame_again}
use Rattle.resp2.specs.Long.LongValues.{whole_lines, told_of, told_value, IsLongFrame, header, is_long, long_size, behind_header, long_value_in, value_by, long_frame_at, passed_in, held_by, as_held}
use Rattle.resp2.proofs.LongLemmas.Passing.{same_passed, value_same, passed_in_same}
use Rattle.resp2.proofs.LongLemmas.Headers.{long_is, size_found, size_reads, no_size}

-- ---- what is told of a frame is the frame

pub frame_told : (value : Frame) → IsFrame value → told_value value ≡ value
frame_told (simple text) is = refl
frame_told (fault text) is = refl
frame_told (int n) is = refl
frame_told (bulk text) is =
    let fits = is.size in
    let short : length text ≤ 65536 =
    omega (arith, length-append (decimal (length text) ++ line_end) (text ++ line_end), length-append text line_end) in
    ap (λ (b : Bool). bulk (cond b (whole_lines (take 65536 text)) text)) (le-ltb 65536 (length text) short)
frame_told null_bulk is = refl
frame_told (items fs) is = refl
frame_told null_items is = refl

-- ---- what is read is spelled so

pub record Found (bytes : List ℕ) (told : Frame) (rest : List ℕ) : Type 0 where
  pub value : Frame
  pub parts : bytes ≡ spelling value ++ rest
  pub is : IsLongFrame value
  pub tells : told ≡ told_value value

-- a bulk string behind its header
pub spelled_bulk : (text rest : List ℕ) → spelling (bulk text) ++ rest ≡ header (length text) ++ (text ++ (line_end ++ rest))
spelled_bulk text rest =
    ap (λ (t : List ℕ). 36 ∷ t)
    (append_assoc (decimal (length text) ++ line_end) (text ++ line_end) rest
    ∙ ap (λ (t : List ℕ). (decimal (length text) ++ line_end) ++ t) (append_assoc text line_end rest))

found_long : (bytes : List ℕ) (size : ℕ) (x : Frame × List ℕ) → long_size bytes ≡ Some size → long_value_in size (behind_header size bytes) ≡ Ok x → Found bytes x.0 x.1
found_long bytes size x named e =
    let head = size_found bytes size named in
    let facts = long_is size head.long in
    let within = facts.within in
    let after = behind_header size bytes in
    let text = take size after in
    let last : Result (Frame × List ℕ) Unread = end_at (drop size after) >>= λ rest. Ok (bulk (told_of text), rest) in
    let g = guard_ok (ltb (length after) size) NeedsMore last x e in
    let enough : size ≤ length after = ltb-false (length after) size g.0 in
    let a = bind_ok (end_at (drop size after)) (λ rest. Ok (bulk (told_of text), rest)) x g.1 in
    let tail = end_takes (drop size after) a.0 a.1 in
    let long : length text ≡ size = omega (arith, length-take size after) in
    let whole : after ≡ text ++ (line_end ++ a.0) = sym (take-append-drop size after) ∙ ap (λ (t : List ℕ). text ++ t) tail in
    let parts : bytes ≡ spelling (bulk text) ++ a.0 =
    head.is ∙ ap (λ (t : List ℕ). header size ++ t) whole ∙ ap (λ (n : ℕ). header n ++ (text ++ (line_end ++ a.0))) (sym long) ∙ sym (spelled_bulk text a.0) in
    let made : Found bytes (bulk (told_of text)) a.0 = record { value = bulk text; parts = parts; is = inr (omega arith); tells = refl } in
    subst (λ (y : Frame × List ℕ). Found bytes y.0 y.1) (ok_is (bulk (told_of text), a.0) x a.2) made

pub value_found : (bytes : List ℕ) (told : Frame) (rest : List ℕ) → long_frame_at bytes ≡ Ok (told, rest) → Found bytes told rest
unfolding long_frame_at
value_found bytes told rest e = at (long_size bytes) refl e
  where
    at : (size : Option ℕ) → long_size bytes ≡ size → value_by size bytes ≡ Ok (told, rest) → Found bytes told rest
    at None named read =
        let a = frame_found bytes (told, rest) read in
        record { value = told; parts = a.parts; is = inl a.frame; tells = sym (frame_told told a.frame) }
    at (Some size) named read = found_long bytes size (told, rest) named read

-- ---- what is spelled so is read

-- what stands behind a header is read as a long bulk string
pub reads_behind : (size : ℕ) (after : List ℕ) → is_long size ≡ true → long_frame_at (header size ++ after) ≡ long_value_in size after
unfolding long_frame_at
reads_behind size after long =
    ap (λ (o : Option ℕ). value_by o (header size ++ after)) (size_reads size after long)
    ∙ ap (long_value_in size) (drop_at (header size) after (length (header size)) refl)

pub held_behind : (size : ℕ) (after : List ℕ) → is_long size ≡ true → as_held (header size ++ after) ≡ header size ++ passed_in size after
unfolding as_held
held_behind size after long =
    ap (λ (o : Option ℕ). held_by o (header size ++ after)) (size_reads size after long)
    ∙ ap (λ (t : List ℕ). header size ++ passed_in size t) (drop_at (header size) after (length (header size)) refl)

frame_reads : (value : Frame) (rest : List ℕ) → IsFrame value → long_frame_at (spelling value ++ rest) ≡ Ok (told_value value, rest)
unfolding long_frame_at
frame_reads value rest is =
    ap (λ (o : Option ℕ). value_by o (spelling value ++ rest)) (no_size value rest is)
    ∙ frame_again value rest is
    ∙ ap (λ (f : Frame). Ok (f, rest)) (sym (frame_told value is))

long_reads : (text rest : List ℕ) → is_long (length text) ≡ true → long_frame_at (spelling (bulk text) ++ rest) ≡ Ok (bulk (told_of text), rest)
long_reads text rest long =
    let n = length text in
    let after = text ++ (line_end ++ rest) in
    let enough : ltb (length after) n ≡ false = le-ltb (length after) n (omega (arith, length-append text (line_end ++ rest))) in
    ap long_frame_at (spelled_bulk text rest)
    ∙ reads_behind n after long
    ∙ rw (enough, drop_at text (line_end ++ rest) n refl, take_at text (line_end ++ rest) n refl) refl

bulk_reads : (text rest : List ℕ) → length text ≤ 16777216 → long_frame_at (spelling (bulk text) ++ rest) ≡ Ok (bulk (told_of text), rest)
bulk_reads text rest within =
    let n = length text in
    elim (cases_lt 65536 (length (header n) + (n + 2))) [
      | inl over ↦ long_reads text rest (and_from (ltb 65536 (length (header n) + (n + 2))) (leb n 16777216) (lt-ltb 65536 (length (header n) + (n + 2)) over) (le-leb n 16777216 within))
      | inr le ↦ frame_reads (bulk text) rest (record {
        plain = omega arith;
        depth = omega arith;
        width = omega arith;
        size = omega (arith, length-append (decimal n ++ line_end) (text ++ line_end), length-append text line_end);
      })
    ]

pub value_reads : (value : Frame) (rest : List ℕ) → IsLongFrame value → long_frame_at (spelling value ++ rest) ≡ Ok (told_value value, rest)
value_reads value rest (inl frame) = frame_reads value rest frame
value_reads (bulk text) rest (inr long) = bulk_reads text rest long
value_reads (simple text) rest (inr long) = absurd long
value_reads (fault text) rest (inr long) = absurd long
value_reads (int n) rest (inr long) = absurd long
value_reads null_bulk rest (inr long) = absurd long
value_reads (items fs) rest (inr long) = absurd long
value_reads null_items rest (inr long) = absurd long

pub value_plain : (value : Frame) → IsLongFrame value → IsPlain value
value_plain value (inl frame) = frame.plain
value_plain (bulk text) (inr long) = omega (arith, long)
value_plain (simple text) (inr long) = absurd long
value_plain (fault text) (inr long) = absurd long
value_plain (int n) (inr long) = absurd long
value_plain null_bulk (inr long) = absurd long
value_plain (items fs) (inr long) = absurd long
value_plain null_items (inr long) = absurd long

-- ---- what was passed over changes nothing

module _ (bytes piece : List ℕ) where
  same_value : (size : ℕ) (after : List ℕ) → is_long size ≡ true → bytes ≡ header size ++ after
      → long_frame_at ((header size ++ passed_in size after) ++ piece) ≡ long_frame_at (bytes ++ piece)
  same_value size after long is =
      let same = same_passed size after piece in
      ap long_frame_at (append_assoc (header size) (passed_in size after) piece)
      ∙ reads_behind size (passed_in size after ++ piece) long
      ∙ value_same size (passed_in size after ++ piece) (after ++ piece) same
      ∙ sym (reads_behind size (after ++ piece) long)
      ∙ ap long_frame_at (sym (append_assoc (header size) after piece) ∙ ap (λ (t : List ℕ). t ++ piece) (sym is))

  same_held : (size : ℕ) (after : List ℕ) → is_long size ≡ true → bytes ≡ header size ++ after
      → as_held ((header size ++ passed_in size after) ++ piece) ≡ as_held (bytes ++ piece)
  same_held size after long is =
      let same = same_passed size after piece in
      ap as_held (append_assoc (header size) (passed_in size after) piece)
      ∙ held_behind size (passed_in size after ++ piece) long
      ∙ ap (λ (t : List ℕ). header size ++ t) (passed_in_same size (passed_in size after ++ piece) (after ++ piece) same)
      ∙ sym (held_behind size (after ++ piece) long)
      ∙ ap as_held (sym (append_assoc (header size) after piece) ∙ ap (λ (t : List ℕ). t ++ piece) (sym is))

  pub tells_same : long_frame_at (as_held bytes ++ piece) ≡ long_frame_at (bytes ++ piece)
  unfolding as_held
  tells_same = at (long_size bytes) refl
    where
      at : (o : Option ℕ) → long_size bytes ≡ o → long_frame_at (held_by o bytes ++ piece) ≡ long_frame_at (bytes ++ piece)
      at None named = refl
      at (Some size) named = let head = size_found bytes size named in same_value size (behind_header size bytes) head.long head.is

  pub holds_same : as_held (as_held bytes ++ piece) ≡ as_held (bytes ++ piece)
  unfolding as_held
  holds_same = at (long_size bytes) refl
    where
      at : (o : Option ℕ) → long_size bytes ≡ o → as_held (held_by o bytes ++ piece) ≡ as_held (bytes ++ piece)
      at None named = refl
      at (Some size) named = let head = size_found bytes size named in same_held size (behind_header size bytes) head.long head.is
