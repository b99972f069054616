-- Going on in a long bulk string.
use Rattle.std.proofs.Common.{◌≡◌, ℕ, ◌+◌, ◌-◌, ◌<◌, ◌≤◌, min, true, false, cond, ltb, List, [], ◌++◌, length, take, drop, replicate, Option, Some, None, is_some, IfOk, IfNone, Result, Ok, Err, refl, sym, ap, subst, ◌∙◌, append_assoc, arith, inl, inr}
use Rattle.std.proofs.lemmas.Bool.{lt-ltb, le-ltb, cases_lt}
use Rattle.std.proofs.lemmas.List.{append-nil, length-append, length-take, take_all, drop_all, take-append-le, length-replicate}
use Rattle.ballot_law.specs.Results.{◌>>=◌}
use Rattle.resp2.specs.declared.framing.fault.FrameFault.{FrameFault}
use Rattle.resp2.specs.declared.framing.fault.FrameFault.TheVariants.{BadKind, BadLength, BadNumber, MissingEnd, TooLong, TooDeep, TooMany, NoMemory}
use Rattle.resp2.specs.declared.framing.fault.Unread.TheVariants.{NeedsMore, Faulty}
use Rattle.resp2.specs.Framing.Frame.{Frame, view, bulk}
use Rattle.resp2.specs.Framing.Reading.{end_at}
use Rattle.resp2.specs.declared.framing.value.Value.{Value}
use Rattle.resp2.specs.Framing.Stream.{Held, reading, bytes_in, held_size, Answers}
use Rattle.resp2.proofs.FramingLemmas.Window.{waits_within}
use Rattle.resp2.specs.Long.LongValues.{whole_lines, told_of, header, behind_header, is_long, long_size, long_value_in, value_by, long_frame_at, passed_over, passed_in, held_by, as_held, LongAnswers}
use Rattle.resp2.specs.declared.long.long_bulk.LongBulk.{LongBulk}
use Rattle.resp2.specs.Long.LongHeld.{first_of, front_of, behind, kept_in}
use Rattle.resp2.proofs.LongLemmas.Passing.{take_over, drop_over}
use Rattle.resp2.proofs.LongLemmas.Headers.{size_found}
use Rattle.resp2.proofs.LongLemmas.Values.{reads_behind, held_behind}

-- So many bytes of a long bulk string came, the first ones of them are kept, and so many of those that came later belong to it and are taken.
pub record IsTaken (size came : ℕ) (kept later : List ℕ) (count size_now came_now : ℕ) (now : List ℕ) : Type 0 where
  pub long : is_long size ≡ true
  pub first : length kept ≡ min came 65536
  pub within : came ≤ size
  pub taken : count ≡ min (size - came) (length later)
  pub size_same : size_now ≡ size
  pub came_more : came_now ≡ came + length (take count later)
  pub kept_now : now ≡ kept ++ take (65536 - length kept) (take count later)

pub is_taken : (size came : ℕ) (kept later held : List ℕ) (left count size_now came_now : ℕ) (now : List ℕ) → is_long size ≡ true → length kept ≡ min came 65536 → came ≤ size
    → held ≡ later → left ≡ size - came → count ≡ min (length held) left → size_now ≡ size → came_now ≡ came + length (take count held)
    → now ≡ kept ++ take (65536 - length kept) (take count held) → IsTaken size came kept later count size_now came_now now
is_taken size came kept later held left count size_now came_now now long first within same open_still least same_size more added = record {
  long = long;
  first = first;
  within = within;
  taken = let len : length held ≡ length later = ap length same in omega arith;
  size_same = same_size;
  came_more = more ∙ ap (λ (t : List ℕ). came + length (take count t)) same;
  kept_now = added ∙ ap (λ (t : List ℕ). kept ++ take (65536 - length kept) (take count t)) same;
}

module _ (size came : ℕ) (kept later : List ℕ) (count size_now came_now : ℕ) (now : List ℕ) (h : IsTaken size came kept later count size_now came_now now) where
  abbrev so_far : List ℕ
  so_far = first_of came kept

  abbrev next_bytes : List ℕ
  next_bytes = take count later

  so_far_long : length so_far ≡ came
  so_far_long = let f = h.first in omega (arith, length-append kept (replicate (came - length kept) 0), length-replicate {A = ℕ} (came - length kept) 0)

  next_long : length next_bytes ≡ count
  next_long = let t = h.taken in omega (arith, length-take count later)

  now_long : length now ≡ min (came + count) 65536
  now_long =
      let f = h.first in
      let n = next_long in
      let e : length now ≡ length (kept ++ take (65536 - length kept) next_bytes) = ap length h.kept_now in
      omega (arith, length-append kept (take (65536 - length kept) next_bytes), length-take (65536 - length kept) next_bytes)

  its_bytes : take size (so_far ++ later) ≡ so_far ++ next_bytes
  its_bytes =
      let len = so_far_long in
      let le = h.within in
      let t = h.taken in
      let left : size - length so_far ≡ size - came = omega arith in
      let same : take (size - came) later ≡ next_bytes = elim (cases_lt (size - came) (length later)) [
        | inl lt ↦ let e : size - came ≡ count = omega arith in ap (λ (n : ℕ). take n later) e
        | inr more ↦ let e : count ≡ length later = omega arith in take_all (size - came) later more ∙ sym (take_all count later (omega arith))
      ] in
      take_over size so_far later (omega arith) ∙ ap (λ (n : ℕ). so_far ++ take n later) left ∙ ap (λ (t : List ℕ). so_far ++ t) same

  behind_it : drop size (so_far ++ later) ≡ drop count later
  behind_it =
      let len = so_far_long in
      let le = h.within in
      let t = h.taken in
      let left : size - length so_far ≡ size - came = omega arith in
      let same : drop (size - came) later ≡ drop count later = elim (cases_lt (size - came) (length later)) [
        | inl lt ↦ let e : size - came ≡ count = omega arith in ap (λ (n : ℕ). drop n later) e
        | inr more ↦ let e : count ≡ length later = omega arith in drop_all (size - came) later more ∙ sym (drop_all count later (omega arith))
      ] in
      drop_over size so_far later (omega arith) ∙ ap (λ (n : ℕ). drop n later) left ∙ same

  its_first : take 65536 (so_far ++ next_bytes) ≡ now
  its_first =
      let f = h.first in
      elim (cases_lt 65536 came) [
        | inl more ↦
            let full : length kept ≡ 65536 = omega arith in
            let none : 65536 - length kept ≡ 0 = omega arith in
            ap (take 65536) (append_assoc kept (replicate (came - length kept) 0) next_bytes)
            ∙ take-append-le 65536 kept (replicate (came - length kept) 0 ++ next_bytes) (omega arith)
            ∙ take_all 65536 kept (omega arith)
            ∙ sym (append-nil kept)
            ∙ ap (λ (n : ℕ). kept ++ take n next_bytes) (sym none)
            ∙ sym h.kept_now
        | inr few ↦
            let none : came - length kept ≡ 0 = omega arith in
            let whole : so_far ≡ kept = ap (λ (n : ℕ). kept ++ replicate n 0) none ∙ append-nil kept in
            ap (λ (t : List ℕ). take 65536 (t ++ next_bytes)) whole ∙ take_over 65536 kept next_bytes (omega arith) ∙ sym h.kept_now
      ]

  its_length : length (so_far ++ next_bytes) ≡ came + count
  its_length = let len = so_far_long in let n = next_long in omega (arith, length-append so_far next_bytes)

  -- what is kept of it is what is held of it
  passed_so_far : passed_over (so_far ++ next_bytes) ≡ first_of (came + count) now
  passed_so_far =
      let len = its_length in
      let long = now_long in
      let zeros : length (so_far ++ next_bytes) - 65536 ≡ (came + count) - length now = omega arith in
      ap (λ (t : List ℕ). t ++ replicate (length (so_far ++ next_bytes) - 65536) 0) its_first ∙ ap (λ (n : ℕ). now ++ replicate n 0) zeros

  held_now : passed_in size (so_far ++ later) ≡ first_of (came + count) now ++ drop count later
  held_now =
      ap (λ (t : List ℕ). passed_over t ++ drop size (so_far ++ later)) its_bytes
      ∙ ap (λ (t : List ℕ). t ++ drop size (so_far ++ later)) passed_so_far
      ∙ ap (λ (t : List ℕ). first_of (came + count) now ++ t) behind_it

  -- what is told of it
  abbrev told_now : List ℕ
  told_now = cond (ltb 65536 size) (whole_lines now) now

  told_is : came + count ≡ size → told_of (so_far ++ next_bytes) ≡ told_now
  told_is whole =
      let len = its_length in
      let long : length (so_far ++ next_bytes) ≡ size = omega arith in
      elim (cases_lt 65536 size) [
        | inl over ↦ rw (lt-ltb 65536 size over, lt-ltb 65536 (length (so_far ++ next_bytes)) (omega arith)) (ap whole_lines its_first)
        | inr few ↦
            rw (le-ltb 65536 size few, le-ltb 65536 (length (so_far ++ next_bytes)) (omega arith))
            (sym (take_all 65536 (so_far ++ next_bytes) (omega arith)) ∙ its_first)
      ]

  all_long : length (so_far ++ later) ≡ came + length later
  all_long = let len = so_far_long in omega (arith, length-append so_far later)

  value_waits : came + count < size → long_value_in size (so_far ++ later) ≡ Err NeedsMore
  value_waits less =
      let t = h.taken in
      let len = all_long in
      rw (lt-ltb (length (so_far ++ later)) size (omega arith)) refl

  value_ends : came + count ≡ size → long_value_in size (so_far ++ later) ≡ (end_at (drop count later) >>= λ rest. Ok (bulk told_now, rest))
  value_ends whole =
      let t = h.taken in
      let len = all_long in
      rw (le-ltb (length (so_far ++ later)) size (omega arith), behind_it, its_bytes, told_is whole) refl

  abbrev bytes : List ℕ
  bytes = (header size ++ so_far) ++ later

  regroup : bytes ≡ header size ++ (so_far ++ later)
  regroup = append_assoc (header size) so_far later

  came_is : came_now ≡ came + count
  came_is = h.came_more ∙ ap (λ (n : ℕ). came + n) next_long

  held_in_it : reading ((header size_now ++ first_of came_now now) ++ drop count later) ≡ reading (as_held bytes)
  held_in_it =
      ap (λ (n : ℕ). reading ((header n ++ first_of came_now now) ++ drop count later)) h.size_same
      ∙ ap (λ (n : ℕ). reading ((header size ++ first_of n now) ++ drop count later)) came_is
      ∙ ap reading (append_assoc (header size) (first_of (came + count) now) (drop count later) ∙ ap (λ (t : List ℕ). header size ++ t) (sym held_now)
      ∙ sym (held_behind size (so_far ++ later) h.long) ∙ ap as_held (sym regroup))

  reads_it : long_frame_at bytes ≡ long_value_in size (so_far ++ later)
  reads_it = ap long_frame_at regroup ∙ reads_behind size (so_far ++ later) h.long

  all_came : size_now ≤ came_now → came + count ≡ size
  all_came le =
      let same = h.size_same in
      let is = came_is in
      let t = h.taken in
      let within = h.within in
      omega arith

  -- its end isn't there
  pub waits_in_it : {V : Type 0} (seen : V → Frame) (after : Held) → came_now < size_now → after ≡ reading (drop count later)
      → LongAnswers seen bytes (Ok None) (behind (header size_now ++ first_of came_now now) after)
  waits_in_it seen after less is =
      let same = h.size_same in
      let now_is = came_is in
      (reads_it ∙ value_waits (omega arith), ap (behind (header size_now ++ first_of came_now now)) is ∙ held_in_it)

  pub waits_behind_it : {V : Type 0} (seen : V → Frame) (after : Held) → size_now ≤ came_now → after ≡ reading (drop count later) → end_at (drop count later) ≡ Err NeedsMore
      → LongAnswers seen bytes (Ok None) (behind (header size_now ++ first_of came_now now) after)
  waits_behind_it seen after le is end =
      (reads_it ∙ value_ends (all_came le) ∙ rw end refl, ap (behind (header size_now ++ first_of came_now now)) is ∙ held_in_it)

  -- other bytes stand in the place of its end
  pub fault_behind_it : {V : Type 0} (seen : V → Frame) (fault : FrameFault) (after : Held) → size_now ≤ came_now → fault ≡ MissingEnd
      → end_at (drop count later) ≡ Err (Faulty MissingEnd) → LongAnswers seen bytes (Err fault) after
  fault_behind_it seen fault after le is end =
      let answer : LongAnswers seen bytes (Err MissingEnd) after = reads_it ∙ value_ends (all_came le) ∙ rw end refl in
      subst (λ (f : FrameFault). LongAnswers seen bytes (Err f) after) (sym is) answer

  -- it is whole
  pub given_whole : {V : Type 0} (seen : V → Frame) (v : V) (long : Option LongBulk) (after : Held) → size_now ≤ came_now → long ≡ None → end_at (drop count later) ≡ Ok (drop 2 (drop count later))
      → after ≡ reading (drop 2 (drop count later)) → seen v ≡ bulk (cond (ltb 65536 size_now) (whole_lines now) now) → LongAnswers seen bytes (Ok (Some v)) (behind (front_of long) after)
  given_whole seen v long after le none end is tells =
      let told : seen v ≡ bulk told_now = tells ∙ ap (λ (n : ℕ). bulk (cond (ltb 65536 n) (whole_lines now) now)) h.size_same in (
        drop 2 (drop count later),
        reads_it ∙ value_ends (all_came le) ∙ rw end (ap (λ (f : Frame). Ok (f, drop 2 (drop count later))) (sym told)),
        ap (λ (o : Option LongBulk). behind (front_of o) after) none ∙ ap (behind []) is,
      )

-- ---- where no long bulk string begins

short_value : (bytes : List ℕ) → long_size bytes ≡ None → long_frame_at bytes ≡ value_by None bytes
unfolding long_frame_at
short_value bytes short = ap (λ (o : Option ℕ). value_by o bytes) short

short_held : (bytes : List ℕ) → long_size bytes ≡ None → as_held bytes ≡ bytes
unfolding as_held
short_held bytes short = ap (λ (o : Option ℕ). held_by o bytes) short

frames_answer : {V : Type 0} (seen : V → Frame) (bytes : List ℕ) (answer : Result (Option V) FrameFault) (after : Held) → long_size bytes ≡ None
    → Answers seen (reading bytes) answer after → LongAnswers seen bytes answer (behind [] after)
frames_answer seen held (Ok (Some v)) after short h = (h.0, short_value held short ∙ h.1, ap (behind []) h.2)
frames_answer seen held (Ok None) after short h = (short_value held short ∙ h.0, ap (behind []) h.1 ∙ ap reading (sym (short_held held short)))
frames_answer seen held (Err NoMemory) after short h = tt
frames_answer seen held (Err BadKind) after short h = short_value held short ∙ h.0
frames_answer seen held (Err BadLength) after short h = short_value held short ∙ h.0
frames_answer seen held (Err BadNumber) after short h = short_value held short ∙ h.0
frames_answer seen held (Err MissingEnd) after short h = short_value held short ∙ h.0
frames_answer seen held (Err TooLong) after short h = short_value held short ∙ h.0
frames_answer seen held (Err TooDeep) after short h = short_value held short ∙ h.0
frames_answer seen held (Err TooMany) after short h = short_value held short ∙ h.0

-- ---- the reader of frames goes on

is_none : {X : Type 0} (o : Option X) → is_some o ≡ false → o ≡ None
is_none (Some x) e = absurd cc
is_none None e = refl

pub header_within : (bytes : List ℕ) (size count : ℕ) → long_size bytes ≡ Some size → count ≡ length (header size) → count ≤ length bytes
header_within bytes size count named is =
    let head = size_found bytes size named in
    let whole : length bytes ≡ length (header size ++ behind_header size bytes) = ap length head.is in
    omega (arith, length-append (header size) (behind_header size bytes))

-- the header of a long bulk string was taken away
pub begins_it : (long : Option LongBulk) (held after : Held) (size size_now came count : ℕ) (kept : List ℕ) → size_now ≡ size → is_some long ≡ false → held ≡ reading (bytes_in held)
    → long_size (bytes_in held) ≡ Some size → count ≡ length (header size) → came ≡ 0 → kept ≡ [] → after ≡ reading (drop count (bytes_in held))
    → behind (header size_now ++ first_of came kept) after ≡ behind (front_of long) held
begins_it long held after size size_now came count kept same none is named counted zero_came empty rest =
    let bytes = bytes_in held in
    let head = size_found bytes size named in
    let front : header size ++ first_of came kept ≡ header size =
    ap (λ (t : List ℕ). header size ++ first_of came t) empty ∙ ap (λ (n : ℕ). header size ++ first_of n []) zero_came ∙ append-nil (header size) in
    let tail : drop count bytes ≡ behind_header size bytes = ap (λ (n : ℕ). drop n bytes) counted in
    ap (λ (n : ℕ). behind (header n ++ first_of came kept) after) same
    ∙ ap (behind (header size ++ first_of came kept)) rest
    ∙ ap (λ (t : List ℕ). reading (t ++ drop count bytes)) front
    ∙ ap (λ (t : List ℕ). reading (header size ++ t)) tail
    ∙ ap reading (sym head.is)
    ∙ ap (behind []) (sym is)
    ∙ ap (λ (o : Option LongBulk). behind (front_of o) held) (sym (is_none long none))

-- no long bulk string begins
pub next_short : (long later : Option LongBulk) (before frames after : Held) (answer : Result (Option Value) FrameFault) → long ≡ None → later ≡ None
    → frames ≡ reading (bytes_in frames) → behind (front_of long) frames ≡ before → IfNone long (long_size (bytes_in frames) ≡ None)
    → Answers view frames answer after → LongAnswers view (bytes_in before) answer (behind (front_of later) after)
next_short long later before frames after answer none none_later is same short h =
    let bytes = bytes_in frames in
    let empty : long_size bytes ≡ None = subst (λ (o : Option LongBulk). IfNone o (long_size bytes ≡ None)) none short in
    let read : Answers view (reading bytes) answer after = subst (λ (t : Held). Answers view t answer after) is h in
    let made = frames_answer view bytes answer after empty read in
    let before_is : bytes ≡ bytes_in before =
    ap (λ (t : Held). bytes_in (behind [] t)) (sym is) ∙ ap (λ (o : Option LongBulk). bytes_in (behind (front_of o) frames)) (sym none) ∙ ap bytes_in same in
    subst (λ (t : List ℕ). LongAnswers view t answer (behind (front_of later) after)) before_is
    (subst (λ (o : Option LongBulk). LongAnswers view bytes answer (behind (front_of o) after)) (sym none_later) made)

pub short_bounded : (later : Option LongBulk) (frames after : Held) (answer : Result (Option Value) FrameFault) → later ≡ None → frames ≡ reading (bytes_in frames)
    → Answers view frames answer after → IfOk answer (λ given. IfNone given (kept_in later + held_size after ≤ 65537))
short_bounded later frames after (Ok (Some v)) none is h = tt
short_bounded later frames after (Ok None) none is h =
    let bytes = bytes_in frames in
    let read : Answers view (reading bytes) (Ok None) after = subst (λ (t : Held). Answers view t (Ok None) after) is h in
    let short = waits_within bytes read.0 in
    let held : held_size after ≡ length bytes = ap held_size read.1 in
    let nothing : kept_in later ≡ 0 = ap kept_in none in
    omega arith
short_bounded later frames after (Err fault) none is h = tt
