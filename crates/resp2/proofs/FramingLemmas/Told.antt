-- Where the grammar's table says that no value follows, a reading gives none, and so of the first frame of a stream.
use Rattle.std.proofs.Common.{◌≡◌, ◌≢◌, ℕ, suc, zero, ◌+◌, ◌-◌, ◌^◌, ◌<◌, ◌≤◌, min, Bool, true, false, cond, ltb, List, [], ◌∷◌, ◌++◌, length, take, drop, Option, Some, None, Result, Ok, Err, decimal, refl, sym, ap, subst, ◌∙◌, append_assoc, arith, inl, inr}
use Rattle.std.specs.Prelude.{ℤ, bytes_eq, not}
use Rattle.std.specs.Str.{all_ascii_digits}
use Rattle.std.specs.Fmt.{signed_decimal}
use Rattle.std.proofs.lemmas.Bool.{ne_eqb, and_parts, lt-ltb, le-ltb, ltb-true, ltb-false}
use Rattle.std.proofs.lemmas.Slice.Eq.{bytes_eq-Decides}
use Rattle.std.proofs.lemmas.List.{drop_at, take_all, length-append, length-take}
use Rattle.ballot_law.specs.Words.{are_digits, has_leading_zero, is_decimal, number_on}
use Rattle.resp2.specs.declared.framing.fault.FrameFault.{FrameFault}
use Rattle.resp2.specs.declared.framing.fault.FrameFault.TheVariants.{BadKind, BadLength, BadNumber, MissingEnd, TooLong, TooDeep, TooMany, NoMemory}
use Rattle.resp2.specs.declared.framing.fault.Unread.{Unread}
use Rattle.resp2.specs.declared.framing.fault.Unread.TheVariants.{NeedsMore, Faulty}
use Rattle.resp2.specs.Framing.Frame.{Frame, FrameList, simple, fault, no_frames, frame, line_end, count, spelling, spellings, IsLine, IsLong, ArePlain, deepest_of, widest_of}
use Rattle.resp2.specs.Framing.Reading.{end_at, line_length, line_at, number_of, size_of, integer_of, text_at, integer_at, block_at, bulk_at, values_at, items_at, kind_at, value_at, in_window, frame_at}
use Rattle.resp2.specs.Framing.Faults.{OpenArray, opening, IsOpen, Within, IsKind, IsBehindLine, BeginsEnd, BreaksEnd, with_bulk, Begins, Shows, MayGoOn, IsFaulted}
use Rattle.resp2.proofs.FramingLemmas.Steps.{chosen}
use Rattle.resp2.proofs.FramingLemmas.Lines.{line_again}
use Rattle.resp2.proofs.FramingLemmas.Numbers.{digits_line, decimal_line, size_again, integer_takes}
use Rattle.resp2.proofs.FramingLemmas.Again.{depth_pos, value_again}
use Rattle.resp2.proofs.FramingLemmas.Stops.{Says, err_is, ok_err, value_stops}

-- ---- lines and their ends

line_length_before : (line end : List ℕ) → IsLine line → IsBehindLine end → line_length (line ++ end) ≡ length line
line_length_before [] [] h k = refl
line_length_before [] (b ∷ bs) h (inl e) = rw e refl
line_length_before [] (b ∷ bs) h (inr e) = rw e refl
line_length_before (b ∷ bs) end h k = rw (ne_eqb b 13 h.0.0, ne_eqb b 10 h.0.1) (ap suc (line_length_before bs end h.1 k))

pub line_fails : (line end : List ℕ) (u : Unread) → IsLine line → IsBehindLine end → end_at end ≡ Err u → line_at (line ++ end) ≡ Err u
unfolding line_at
line_fails line end u h k e = let n = line_length_before line end h k in rw (n, drop_at line end (length line) refl, e) refl

begins_end : (end : List ℕ) → BeginsEnd end → end_at end ≡ Err NeedsMore
begins_end [] h = refl
begins_end (b ∷ []) h = rw h refl
begins_end (b ∷ c ∷ bs) h = absurd h

begins_behind : (end : List ℕ) → BeginsEnd end → IsBehindLine end
begins_behind [] h = tt
begins_behind (b ∷ []) h = inl h
begins_behind (b ∷ c ∷ bs) h = absurd h

breaks_end : (end : List ℕ) → BreaksEnd end → end_at end ≡ Err (Faulty MissingEnd)
breaks_end [] h = absurd h
breaks_end (b ∷ []) h = rw (ne_eqb b 13 h) refl
breaks_end (b ∷ c ∷ bs) (inl h) = rw (ne_eqb b 13 h) refl
breaks_end (b ∷ c ∷ bs) (inr h) = rw (h.0, ne_eqb c 10 h.1) refl

text_fails : (make : List ℕ → Frame) (bytes : List ℕ) (u : Unread) → line_at bytes ≡ Err u → text_at make bytes ≡ Err u
unfolding text_at
text_fails make bytes u e = rw e refl

integer_fails : (bytes : List ℕ) (u : Unread) → line_at bytes ≡ Err u → integer_at bytes ≡ Err u
unfolding integer_at
integer_fails bytes u e = rw e refl

bulk_fails : (more : ℕ) (bytes : List ℕ) (u : Unread) → line_at bytes ≡ Err u → bulk_at more bytes ≡ Err u
unfolding bulk_at
bulk_fails more bytes u e = rw e refl

items_fail : (inner : List ℕ → Result (Frame × List ℕ) Unread) (bytes : List ℕ) (u : Unread) → line_at bytes ≡ Err u → items_at 1024 inner bytes ≡ Err u
unfolding items_at
items_fail inner bytes u e = rw e refl

pub kind_line : (more : ℕ) (inner : List ℕ → Result (Frame × List ℕ) Unread) (kind : ℕ) (bytes : List ℕ) (u : Unread) → IsKind kind → line_at bytes ≡ Err u →
    kind_at 1024 more inner kind bytes ≡ Err u
unfolding kind_at
kind_line more inner kind bytes u (inl k) e = subst (λ (c : ℕ). kind_at 1024 more inner c bytes ≡ Err u) (sym k) (text_fails simple bytes u e)
kind_line more inner kind bytes u (inr (inl k)) e = subst (λ (c : ℕ). kind_at 1024 more inner c bytes ≡ Err u) (sym k) (text_fails fault bytes u e)
kind_line more inner kind bytes u (inr (inr (inl k))) e = subst (λ (c : ℕ). kind_at 1024 more inner c bytes ≡ Err u) (sym k) (integer_fails bytes u e)
kind_line more inner kind bytes u (inr (inr (inr (inl k)))) e = subst (λ (c : ℕ). kind_at 1024 more inner c bytes ≡ Err u) (sym k) (bulk_fails more bytes u e)
kind_line more inner kind bytes u (inr (inr (inr (inr k)))) e = subst (λ (c : ℕ). kind_at 1024 more inner c bytes ≡ Err u) (sym k) (items_fail inner bytes u e)

-- ---- lengths and integers

abbrev minus_one : List ℕ
minus_one = 45 ∷ 49 ∷ []

abbrev kept : List ℕ → ℕ
kept digits = min (number_on 0 digits) (2 ^ 64 - 1)

digits_are_line : (digits : List ℕ) → is_decimal digits ≡ true → IsLine digits
digits_are_line digits form =
    let parts = and_parts (are_digits digits) (not (has_leading_zero digits)) form in
    digits_line digits (and_parts (ltb 0 (length digits)) (all_ascii_digits digits) parts.0).1

size_is : (digits : List ℕ) → is_decimal digits ≡ true → size_of digits ≡ Ok (Some (kept digits))
unfolding size_of number_of
size_is digits form = rw form refl

size_bad : (line : List ℕ) → is_decimal line ≡ false → line ≢ minus_one → size_of line ≡ Err (Faulty BadLength)
unfolding size_of number_of
size_bad line form other = rw (form, at (bytes_eq line minus_one) refl) refl
  where
    at : (t : Bool) → bytes_eq line minus_one ≡ t → t ≡ false
    at true e = absurd (other ((bytes_eq-Decides line minus_one).0 e))
    at false e = refl

integer_none : (line : List ℕ) → ((n : ℤ) → IsLong n → line ≢ signed_decimal n) → integer_of line ≡ None
integer_none line never = at (integer_of line) refl
  where
    at : (o : Option ℤ) → integer_of line ≡ o → o ≡ None
    at None e = refl
    at (Some n) e = let t = integer_takes line n e in absurd (never n t.1 t.0)

integer_bad : (line later : List ℕ) → IsLine line → ((n : ℤ) → IsLong n → line ≢ signed_decimal n) → integer_at (line ++ (line_end ++ later)) ≡ Err (Faulty BadNumber)
unfolding integer_at
integer_bad line later h never = rw (line_again line later h, integer_none line never) refl

bulk_bad : (more : ℕ) (line later : List ℕ) → IsLine line → is_decimal line ≡ false → line ≢ minus_one → bulk_at more (line ++ (line_end ++ later)) ≡ Err (Faulty BadLength)
unfolding bulk_at
bulk_bad more line later h form other = rw (line_again line later h, size_bad line form other) refl

items_bad : (inner : List ℕ → Result (Frame × List ℕ) Unread) (line later : List ℕ) → IsLine line → is_decimal line ≡ false → line ≢ minus_one →
    items_at 1024 inner (line ++ (line_end ++ later)) ≡ Err (Faulty BadLength)
unfolding items_at
items_bad inner line later h form other = rw (line_again line later h, size_bad line form other) refl

items_too_many : (inner : List ℕ → Result (Frame × List ℕ) Unread) (digits later : List ℕ) → is_decimal digits ≡ true → 1024 < number_on 0 digits →
    items_at 1024 inner (digits ++ (line_end ++ later)) ≡ Err (Faulty TooMany)
unfolding items_at
items_too_many inner digits later form many =
    let over : ltb 1024 (kept digits) ≡ true = lt-ltb 1024 (kept digits) (omega arith) in
    rw (line_again digits later (digits_are_line digits form), size_is digits form, over) refl

-- ---- bulk strings

bulk_header : (more : ℕ) (digits rest : List ℕ) (u : Unread) → is_decimal digits ≡ true → block_at more (kept digits) rest ≡ Err u →
    bulk_at more (digits ++ (line_end ++ rest)) ≡ Err u
unfolding bulk_at
bulk_header more digits rest u form e = rw (line_again digits rest (digits_are_line digits form), size_is digits form, e) refl

block_too_long : (more n : ℕ) (rest : List ℕ) → length rest + more < n + 2 → block_at more n rest ≡ Err (Faulty TooLong)
unfolding block_at
block_too_long more n rest h = rw (lt-ltb (length rest + more) (n + 2) h) refl

block_waits : (more n : ℕ) (rest : List ℕ) → n + 2 ≤ length rest + more → length rest < n → block_at more n rest ≡ Err NeedsMore
unfolding block_at
block_waits more n rest room short = rw (le-ltb (length rest + more) (n + 2) room, lt-ltb (length rest) n short) refl

block_ends : (more n : ℕ) (block end : List ℕ) (u : Unread) → n ≡ length block → n + 2 ≤ length (block ++ end) + more → end_at end ≡ Err u → block_at more n (block ++ end) ≡ Err u
unfolding block_at
block_ends more n block end u all room e =
    let enough : n ≤ length (block ++ end) = omega (arith, length-append block end) in
    let first : ltb (length (block ++ end) + more) (n + 2) ≡ false = le-ltb (length (block ++ end) + more) (n + 2) room in
    let second : ltb (length (block ++ end)) n ≡ false = le-ltb (length (block ++ end)) n enough in
    rw (first, second, drop_at block end n (sym all), e) refl

-- ---- a value

value_empty : (more levels : ℕ) → value_at 1024 more levels [] ≡ Err NeedsMore
unfolding value_at
value_empty more zero = refl
value_empty more (suc levels) = refl

pub value_kind : (more levels kind : ℕ) (rest : List ℕ) (u : Unread) → 0 < levels →
    ((inner : List ℕ → Result (Frame × List ℕ) Unread) → kind_at 1024 more inner kind rest ≡ Err u) → value_at 1024 more levels (kind ∷ rest) ≡ Err u
unfolding value_at
value_kind more zero kind rest u some h = absurd (omega arith)
value_kind more (suc levels) kind rest u some h = h (value_at 1024 more levels)

value_deep : (more levels b : ℕ) (later : List ℕ) → levels ≡ 0 → value_at 1024 more levels (b ∷ later) ≡ Err (Faulty TooDeep)
unfolding value_at
value_deep more zero b later e = refl
value_deep more (suc levels) b later e = absurd (omega arith)

kind_bad : (more : ℕ) (inner : List ℕ → Result (Frame × List ℕ) Unread) (kind : ℕ) (later : List ℕ) → ¬ IsKind kind → kind_at 1024 more inner kind later ≡ Err (Faulty BadKind)
unfolding kind_at
kind_bad more inner kind later none =
    rw (
      ne_eqb kind 43 (λ e. none (inl e)),
      ne_eqb kind 45 (λ e. none (inr (inl e))),
      ne_eqb kind 58 (λ e. none (inr (inr (inl e)))),
      ne_eqb kind 36
          (λ e. none (inr (inr (inr (inl e))))),
      ne_eqb kind 42 (λ e. none (inr (inr (inr (inr e))))),
    ) refl

module _ (more levels before : ℕ) (bytes : List ℕ) (room : before + length bytes + more ≡ 65536) where
  abbrev Fails : Unread → List ℕ → Type 0
  Fails u bs = value_at 1024 more levels bs ≡ Err u

  space : (digits rest : List ℕ) → bytes ≡ 36 ∷ (digits ++ (line_end ++ rest)) → before + 1 + length digits + 2 + length rest + more ≡ 65536
  space digits rest is = omega (arith, ap length is, length-append digits (line_end ++ rest))

  begins_waits : Begins levels before bytes → Fails NeedsMore bytes
  unfolding kind_at
  begins_waits (inl none) = subst (Fails NeedsMore) (sym none) (value_empty more levels)
  begins_waits (inr (some, inl (b, begins))) =
      subst (Fails NeedsMore) (sym b.is)
      (value_kind more levels b.kind (b.line ++ b.end) NeedsMore some
      (λ inner. kind_line more inner b.kind (b.line ++ b.end) NeedsMore b.is_kind
      (line_fails b.line b.end NeedsMore b.is_line (begins_behind b.end begins) (begins_end b.end begins))))
  begins_waits (inr (some, inr (b, begins))) =
      let rest = b.block ++ b.end in
      let room_left = space b.digits rest b.is in
      let fits : with_bulk before b.digits ≤ 65536 = b.fits in
      let value : kept b.digits ≡ number_on 0 b.digits = omega arith in
      let stops : block_at more (kept b.digits) rest ≡ Err NeedsMore = elim begins [
        | inl w ↦
            let short : length rest < kept b.digits = omega (arith, w.0, length-append b.block b.end, ap length w.1) in
            block_waits more (kept b.digits) rest (omega arith) short
        | inr w ↦ block_ends more (kept b.digits) b.block b.end NeedsMore (value ∙ sym w.0) (omega arith) (begins_end b.end w.1)
      ] in
      subst (Fails NeedsMore) (sym b.is)
      (value_kind more levels 36 (b.digits ++ (line_end ++ rest)) NeedsMore some (λ inner. bulk_header more b.digits rest NeedsMore b.is_length stops))

  shows_fails : (f : FrameFault) → Shows f levels before bytes → Fails (Faulty f) bytes
  unfolding kind_at
  shows_fails BadKind h = subst (Fails (Faulty BadKind)) (sym h.3) (value_kind more levels h.0 h.1 (Faulty BadKind) h.2 (λ inner. kind_bad more inner h.0 h.1 h.4))
  shows_fails BadLength (kind, line, later, some, is, which, is_line, form, other) =
      subst (Fails (Faulty BadLength)) (sym is) (value_kind more levels kind (line ++ (line_end ++ later)) (Faulty BadLength) some (λ inner. elim which [
        | inl k ↦ subst (λ (c : ℕ). kind_at 1024 more inner c (line ++ (line_end ++ later)) ≡ Err (Faulty BadLength)) (sym k) (bulk_bad more line later is_line form other)
        | inr k ↦ subst (λ (c : ℕ). kind_at 1024 more inner c (line ++ (line_end ++ later)) ≡ Err (Faulty BadLength)) (sym k) (items_bad inner line later is_line form other)
      ]))
  shows_fails BadNumber (line, later, some, is, is_line, never) =
      subst (Fails (Faulty BadNumber)) (sym is) (value_kind more levels 58 (line ++ (line_end ++ later)) (Faulty BadNumber) some (λ inner. integer_bad line later is_line never))
  shows_fails MissingEnd (some, inl (b, behind, breaks)) =
      subst (Fails (Faulty MissingEnd)) (sym b.is)
      (value_kind more levels b.kind (b.line ++ b.end) (Faulty MissingEnd) some
      (λ inner. kind_line more inner b.kind (b.line ++ b.end) (Faulty MissingEnd) b.is_kind
      (line_fails b.line b.end (Faulty MissingEnd) b.is_line behind (breaks_end b.end breaks))))
  shows_fails MissingEnd (some, inr (b, all, breaks)) =
      let rest = b.block ++ b.end in
      let room_left = space b.digits rest b.is in
      let fits : with_bulk before b.digits ≤ 65536 = b.fits in
      let value : kept b.digits ≡ number_on 0 b.digits = omega arith in
      let stops : block_at more (kept b.digits) rest ≡ Err (Faulty MissingEnd) =
      block_ends more (kept b.digits) b.block b.end (Faulty MissingEnd) (value ∙ sym all) (omega arith) (breaks_end b.end breaks) in
      subst (Fails (Faulty MissingEnd)) (sym b.is)
      (value_kind more levels 36 (b.digits ++ (line_end ++ rest)) (Faulty MissingEnd) some (λ inner. bulk_header more b.digits rest (Faulty MissingEnd) b.is_length stops))
  shows_fails TooLong (digits, later, some, is, form, over) =
      let room_left = space digits later is in
      let long : length later + more < kept digits + 2 = omega arith in
      subst (Fails (Faulty TooLong)) (sym is)
      (value_kind more levels 36 (digits ++ (line_end ++ later)) (Faulty TooLong) some
      (λ inner. bulk_header more digits later (Faulty TooLong) form (block_too_long more (kept digits) later long)))
  shows_fails TooDeep (b, later, none, is) = subst (Fails (Faulty TooDeep)) (sym is) (value_deep more levels b later none)
  shows_fails TooMany (digits, later, some, is, form, many) =
      subst (Fails (Faulty TooMany)) (sym is) (value_kind more levels 42 (digits ++ (line_end ++ later)) (Faulty TooMany) some
      (λ inner. items_too_many inner digits later form many))
  shows_fails NoMemory h = absurd h

  pub here_fails : (u : Unread) → Says u levels before bytes → Fails u bytes
  here_fails NeedsMore h = begins_waits h
  here_fails (Faulty f) h = shows_fails f h

-- ---- arrays

values_fail : (fs : FrameList) (more d n : ℕ) (rest : List ℕ) (u : Unread) → ArePlain fs → deepest_of fs ≤ d → widest_of fs ≤ 1024 → count fs < n →
    value_at 1024 more d rest ≡ Err u
    → values_at (value_at 1024 more d) n (spellings fs ++ rest) ≡ Err u
unfolding values_at
values_fail fs more d zero rest u plain deep wide few e = absurd (omega arith)
values_fail no_frames more d (suc n) rest u plain deep wide few e = rw e refl
values_fail (frame f fs) more zero (suc n) rest u plain deep wide few e = let some = depth_pos f in absurd (omega arith)
values_fail (frame f fs) more (suc d) (suc n) rest u plain deep wide few e =
    let regrouped = append_assoc (spelling f) (spellings fs) rest in
    let first = value_again f 1024 more d (spellings fs ++ rest) plain.0 (omega arith) (omega arith) in
    let others = values_fail fs more (suc d) n rest u plain.1 (omega arith) (omega arith) (omega arith) e in
    rw (regrouped, first, others) refl

array_fails : (more levels : ℕ) (array : OpenArray) (rest : List ℕ) (u : Unread) → IsOpen levels array → value_at 1024 more levels rest ≡ Err u
    → items_at 1024 (value_at 1024 more levels) (((decimal array.size ++ line_end) ++ spellings array.whole) ++ rest) ≡ Err u
unfolding items_at
array_fails more levels array rest u is_open e =
    let n = array.size in
    let few : n ≤ 1024 = is_open.few in
    let lt : n < 2 ^ 64 = omega arith in
    let regrouped : ((decimal n ++ line_end) ++ spellings array.whole) ++ rest ≡ decimal n ++ (line_end ++ (spellings array.whole ++ rest)) =
    append_assoc (decimal n ++ line_end) (spellings array.whole) rest ∙ append_assoc (decimal n) line_end (spellings array.whole ++ rest) in
    let within : ltb 1024 n ≡ false = le-ltb 1024 n few in
    let stops = values_fail array.whole more levels n rest u is_open.plain is_open.deep is_open.wide is_open.more e in
    rw (regrouped, line_again (decimal n) (spellings array.whole ++ rest) (decimal_line n lt), size_again n lt, within, stops) refl

within_fails : (more levels before : ℕ) (bytes : List ℕ) (u : Unread) → before + length bytes + more ≡ 65536 → Within (Says u) levels before bytes →
    value_at 1024 more levels bytes ≡ Err u
unfolding value_at kind_at
within_fails more zero before bytes u room h = here_fails more zero before bytes room u h
within_fails more (suc levels) before bytes u room (inl h) = here_fails more (suc levels) before bytes room u h
within_fails more (suc levels) before bytes u room (inr (array, rest, is, is_open, h)) =
    let space_left : before + length (opening array) + length rest + more ≡ 65536 = omega (arith, ap length is, length-append (opening array) rest) in
    let inner = within_fails more levels (before + length (opening array)) rest u space_left h in
    subst (λ (bs : List ℕ). value_at 1024 more (suc levels) bs ≡ Err u) (sym is) (array_fails more levels array rest u is_open inner)

-- ---- the first frame of a stream

abbrev failure : FrameFault → Result (Frame × List ℕ) Unread
failure f = Err (Faulty f)

fault_is : (f g : FrameFault) → failure f ≡ failure g → g ≡ f
fault_is f g e = let d : Faulty f ≡ Faulty g = err_is {A = Frame × List ℕ} (Faulty f) (Faulty g) e in cc

module _ (bytes : List ℕ) where
  abbrev window : List ℕ
  window = take 65536 bytes

  abbrev read : Result (Frame × List ℕ) Unread
  read = value_at 1024 (65536 - length bytes) 8 window

  window_room : 0 + length window + (65536 - length bytes) ≡ 65536
  window_room = omega (arith, length-take 65536 bytes)

  read_says : (u : Unread) → read ≡ Err u → Within (Says u) 8 0 window
  read_says u e = value_stops (65536 - length bytes) 8 0 window u window_room e

  says_read : (u : Unread) → Within (Says u) 8 0 window → read ≡ Err u
  says_read u h = within_fails (65536 - length bytes) 8 0 window u window_room h

  fault_from : (r : Result (Frame × List ℕ) Unread) (f : FrameFault) → ((u : Unread) → r ≡ Err u → Within (Says u) 8 0 window) → in_window bytes r ≡ Err (Faulty f) →
      IsFaulted f bytes
  fault_from (Ok x) f says e = absurd (ok_err (x.0, x.1 ++ drop 65536 bytes) (Faulty f) e)
  fault_from (Err NeedsMore) f says e = elim (chosen (ltb 65536 (length bytes)) (Err (Faulty TooLong)) (Err NeedsMore) (Err (Faulty f)) e) [
    | inl w ↦ inr (fault_is TooLong f w.1, ltb-true 65536 (length bytes) w.0, says NeedsMore refl)
    | inr w ↦ absurd (let d : NeedsMore ≡ Faulty f = err_is {A = Frame × List ℕ} NeedsMore (Faulty f) w.1 in cc)
  ]
  fault_from (Err (Faulty g)) f says e = inl (subst (λ (k : FrameFault). Within (Shows k) 8 0 window) (sym (fault_is g f e)) (says (Faulty g) refl))

  waits_from : (r : Result (Frame × List ℕ) Unread) → ((u : Unread) → r ≡ Err u → Within (Says u) 8 0 window) → in_window bytes r ≡ Err NeedsMore → MayGoOn bytes
  waits_from (Ok x) says e = absurd (ok_err (x.0, x.1 ++ drop 65536 bytes) NeedsMore e)
  waits_from (Err NeedsMore) says e = elim (chosen (ltb 65536 (length bytes)) (Err (Faulty TooLong)) (Err NeedsMore) (Err NeedsMore) e) [
    | inl w ↦ absurd (let d : Faulty TooLong ≡ NeedsMore = err_is {A = Frame × List ℕ} (Faulty TooLong) NeedsMore w.1 in cc)
    | inr w ↦
        let le : length bytes ≤ 65536 = ltb-false 65536 (length bytes) w.0 in
        (le, subst (λ (bs : List ℕ). Within Begins 8 0 bs) (take_all 65536 bytes le) (says NeedsMore refl))
  ]
  waits_from (Err (Faulty g)) says e = absurd (let d : Faulty g ≡ NeedsMore = err_is {A = Frame × List ℕ} (Faulty g) NeedsMore e in cc)

  fault_back : (f : FrameFault) → IsFaulted f bytes → frame_at bytes ≡ Err (Faulty f)
  unfolding frame_at
  fault_back f (inl h) = ap (in_window bytes) (says_read (Faulty f) h)
  fault_back f (inr (e, over, h)) =
      ap (in_window bytes) (says_read NeedsMore h) ∙ ap (λ (t : Bool). cond t (Err (Faulty TooLong)) (Err NeedsMore)) (lt-ltb 65536 (length bytes) over) ∙ ap failure (sym e)

  waits_back : MayGoOn bytes → frame_at bytes ≡ Err NeedsMore
  unfolding frame_at
  waits_back h =
      let here : Within Begins 8 0 window = subst (λ (bs : List ℕ). Within Begins 8 0 bs) (sym (take_all 65536 bytes h.0)) h.1 in
      ap (in_window bytes) (says_read NeedsMore here) ∙ ap (λ (t : Bool). cond t (Err (Faulty TooLong)) (Err NeedsMore)) (le-ltb 65536 (length bytes) h.0)

  pub faults_are : (f : FrameFault) → ((frame_at bytes ≡ Err (Faulty f)) → IsFaulted f bytes) × (IsFaulted f bytes → (frame_at bytes ≡ Err (Faulty f)))
  unfolding frame_at
  faults_are f = (fault_from read f read_says, fault_back f)

  pub waits_are : ((frame_at bytes ≡ Err NeedsMore) → MayGoOn bytes) × (MayGoOn bytes → (frame_at bytes ≡ Err NeedsMore))
  unfolding frame_at
  waits_are = (waits_from read read_says, waits_back)
