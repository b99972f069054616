-- The first frame of a stream: what is read is spelled so, what is spelled so is read, and both stay when more bytes come.
use Rattle.std.proofs.Common.{◌≡◌, ℕ, suc, zero, ◌+◌, ◌-◌, ◌<◌, ◌≤◌, List, [], ◌∷◌, ◌++◌, length, take, drop, Result, Ok, Err, refl, sym, ap, subst, ◌∙◌, append_assoc, arith, inl, inr}
use Rattle.std.proofs.lemmas.Bool.{lt-ltb, le-ltb, cases_lt}
use Rattle.std.proofs.lemmas.List.{append-nil, take-append-drop, length-append, length-take, take_all, drop_all, take-append-le, drop-append-le, drop_at}
use Rattle.resp2.specs.declared.framing.fault.FrameFault.{FrameFault}
use Rattle.resp2.specs.declared.framing.fault.FrameFault.TheVariants.{TooLong}
use Rattle.resp2.specs.declared.framing.fault.Unread.{Unread}
use Rattle.resp2.specs.declared.framing.fault.Unread.TheVariants.{NeedsMore, Faulty}
use Rattle.resp2.specs.Framing.Frame.{Frame, spelling, IsFrame}
use Rattle.resp2.specs.Framing.Reading.{value_at, in_window, frame_at, Stays}
use Rattle.resp2.proofs.FramingLemmas.Steps.{ok_is}
use Rattle.resp2.proofs.FramingLemmas.Takes.{Taken, value_takes}
use Rattle.resp2.proofs.FramingLemmas.Again.{value_again}
use Rattle.resp2.proofs.FramingLemmas.Keeps.{value_stays}

-- ---- what is read is spelled so

pub record Found (bytes : List ℕ) (f : Frame) (rest : List ℕ) : Type 0 where
  pub parts : bytes ≡ spelling f ++ rest
  pub frame : IsFrame f

found : (bytes : List ℕ) (r : Result (Frame × List ℕ) Unread) (x : Frame × List ℕ)
    → ((y : Frame × List ℕ) → r ≡ Ok y → Taken 1024 8 (take 65536 bytes) y.0 y.1) → in_window bytes r ≡ Ok x → Found bytes x.0 x.1
found bytes (Ok y) x taken e =
    let t = taken y refl in
    let whole : bytes ≡ spelling y.0 ++ (y.1 ++ drop 65536 bytes) =
    sym (take-append-drop 65536 bytes) ∙ ap (λ (w : List ℕ). w ++ drop 65536 bytes) t.parts ∙ append_assoc (spelling y.0) y.1 (drop 65536 bytes) in
    let short : length (spelling y.0) ≤ 65536 = omega (arith, ap length t.parts, length-append (spelling y.0) y.1, length-take 65536 bytes) in
    let made : Found bytes y.0 (y.1 ++ drop 65536 bytes) = record { parts = whole; frame = record { plain = t.plain; depth = t.deep; width = t.wide; size = short } } in
    subst (λ (z : Frame × List ℕ). Found bytes z.0 z.1) (ok_is (y.0, y.1 ++ drop 65536 bytes) x e) made
found bytes (Err NeedsMore) x taken e = absurd (elim (cases_lt 65536 (length bytes)) [
  | inl lt ↦ let d : Err (Faulty TooLong) ≡ Ok x = rw (lt-ltb 65536 (length bytes) lt) at e in cc
  | inr le ↦ let d : Err NeedsMore ≡ Ok x = rw (le-ltb 65536 (length bytes) le) at e in cc
])
found bytes (Err (Faulty f)) x taken e = absurd cc

pub frame_found : (bytes : List ℕ) (x : Frame × List ℕ) → frame_at bytes ≡ Ok x → Found bytes x.0 x.1
unfolding frame_at
frame_found bytes x e =
    let w = take 65536 bytes in
    found bytes (value_at 1024 (65536 - length bytes) 8 w) x (λ y d. value_takes 1024 (65536 - length bytes) 8 (omega arith) w y (omega (arith, length-take 65536 bytes)) d) e

-- ---- what is spelled so is read

take_over : (n : ℕ) (front rest : List ℕ) → length front ≤ n → take n (front ++ rest) ≡ front ++ take (n - length front) rest
take_over n [] rest le = let e : n ≡ n - 0 = omega arith in ap (λ (k : ℕ). take k rest) e
take_over zero (b ∷ bs) rest le = absurd (omega arith)
take_over (suc n) (b ∷ bs) rest le =
    let e : n - length bs ≡ suc n - suc (length bs) = omega arith in
    ap (λ (t : List ℕ). b ∷ t) (take_over n bs rest (omega arith) ∙ ap (λ (k : ℕ). bs ++ take k rest) e)

drop_over : (n : ℕ) (front rest : List ℕ) → length front ≤ n → drop n (front ++ rest) ≡ drop (n - length front) rest
drop_over n [] rest le = let e : n ≡ n - 0 = omega arith in ap (λ (k : ℕ). drop k rest) e
drop_over zero (b ∷ bs) rest le = absurd (omega arith)
drop_over (suc n) (b ∷ bs) rest le =
    let e : n - length bs ≡ suc n - suc (length bs) = omega arith in
    drop_over n bs rest (omega arith) ∙ ap (λ (k : ℕ). drop k rest) e

pub frame_again : (f : Frame) (rest : List ℕ) → IsFrame f → frame_at (spelling f ++ rest) ≡ Ok (f, rest)
unfolding frame_at
frame_again f rest fits =
    let text = spelling f in
    let more = 65536 - length (text ++ rest) in
    let window = take_over 65536 text rest fits.size in
    let read = value_again f 1024 more 7 (take (65536 - length text) rest) fits.plain fits.depth fits.width in
    let behind : take (65536 - length text) rest ++ drop 65536 (text ++ rest) ≡ rest =
    ap (λ (t : List ℕ). take (65536 - length text) rest ++ t) (drop_over 65536 text rest fits.size) ∙ take-append-drop (65536 - length text) rest in
    rw (window, read) (ap (λ (t : List ℕ). Ok (f, t)) behind)

-- ---- what was read stays

window_stays : (bytes p q : List ℕ) (r s : Result (Frame × List ℕ) Unread) → length bytes ≤ 65536 → p ≡ q ++ drop 65536 (bytes ++ p) → Stays q r s →
    Stays p (in_window bytes r) (in_window (bytes ++ p) s)
window_stays bytes p q (Ok x) s le split h =
    let none : drop 65536 bytes ≡ [] = drop_all 65536 bytes le in
    let same : (x.1 ++ q) ++ drop 65536 (bytes ++ p) ≡ (x.1 ++ drop 65536 bytes) ++ p =
    append_assoc x.1 q (drop 65536 (bytes ++ p)) ∙ ap (λ (t : List ℕ). x.1 ++ t) (sym split) ∙
    ap (λ (t : List ℕ). t ++ p) (sym (append-nil x.1) ∙ ap (λ (t : List ℕ). x.1 ++ t) (sym none)) in
    rw h (ap (λ (t : List ℕ). Ok (x.0, t)) same)
window_stays bytes p q (Err NeedsMore) s le split h = rw (le-ltb 65536 (length bytes) le) tt
window_stays bytes p q (Err (Faulty f)) s le split h = rw h refl

full_stays : (bytes p : List ℕ) (r : Result (Frame × List ℕ) Unread) → 65536 < length bytes → Stays p (in_window bytes r) (in_window (bytes ++ p) r)
full_stays bytes p (Ok x) lt =
    let same : x.1 ++ drop 65536 (bytes ++ p) ≡ (x.1 ++ drop 65536 bytes) ++ p =
    ap (λ (t : List ℕ). x.1 ++ t) (drop-append-le 65536 bytes p (omega arith)) ∙ sym (append_assoc x.1 (drop 65536 bytes) p) in
    ap (λ (t : List ℕ). Ok (x.0, t)) same
full_stays bytes p (Err NeedsMore) lt = rw (lt-ltb 65536 (length bytes) lt, lt-ltb 65536 (length (bytes ++ p)) (omega (arith, length-append bytes p))) refl
full_stays bytes p (Err (Faulty f)) lt = refl

pub frame_stays : (p bytes : List ℕ) → Stays p (frame_at bytes) (frame_at (bytes ++ p))
unfolding frame_at
frame_stays p bytes =
    elim (cases_lt 65536 (length bytes)) [
      | inl lt ↦
          let window = take-append-le 65536 bytes p (omega arith) in
          let more : 65536 - length (bytes ++ p) ≡ 65536 - length bytes = omega (arith, length-append bytes p) in
          rw (window, more) (full_stays bytes p (value_at 1024 (65536 - length bytes) 8 (take 65536 bytes)) lt)
      | inr le ↦
          let q = take (65536 - length bytes) p in
          let short = take_all 65536 bytes le in
          let window = take_over 65536 bytes p le in
          let split : p ≡ q ++ drop 65536 (bytes ++ p) = sym (ap (λ (t : List ℕ). q ++ t) (drop_over 65536 bytes p le) ∙ take-append-drop (65536 - length bytes) p) in
          let more : 65536 - length bytes ≡ (65536 - length (bytes ++ p)) + length q = omega (arith, length-append bytes p, length-take (65536 - length bytes) p) in
          let stays = rw (← more) at (value_stays q 1024 (65536 - length (bytes ++ p)) 8 bytes) in
          window_stays bytes p q (value_at 1024 (65536 - length bytes) 8 (take 65536 bytes)) (value_at 1024 (65536 - length (bytes ++ p)) 8 (take 65536 (bytes ++ p))) le split
          (rw (short, window) stays)
    ]

-- ---- the bytes that a value took

pub cut : (bytes front rest : List ℕ) → take 65536 bytes ≡ front ++ rest → drop (length (take 65536 bytes) - length rest) bytes ≡ rest ++ drop 65536 bytes
cut bytes front rest e =
    let count : length (take 65536 bytes) - length rest ≡ length front = omega (arith, ap length e, length-append front rest) in
    let whole : bytes ≡ front ++ (rest ++ drop 65536 bytes) =
    sym (take-append-drop 65536 bytes) ∙ ap (λ (w : List ℕ). w ++ drop 65536 bytes) e ∙ append_assoc front rest (drop 65536 bytes) in
    rw count (ap (drop (length front)) whole ∙ drop_at front (rest ++ drop 65536 bytes) (length front) refl)

-- ---- the window, as a function has it

module _ (bytes window : List ℕ) where
  frame_is : (r : Result (Frame × List ℕ) Unread) → window ≡ take 65536 bytes → value_at 1024 (65536 - length window) 8 window ≡ r → frame_at bytes ≡ in_window bytes r
  unfolding frame_at
  frame_is r w e =
      let more : 65536 - length bytes ≡ 65536 - length (take 65536 bytes) = omega (arith, length-take 65536 bytes) in
      ap (λ (k : ℕ). in_window bytes (value_at 1024 k 8 (take 65536 bytes))) more ∙ ap (λ (t : List ℕ). in_window bytes (value_at 1024 (65536 - length t) 8 t)) (sym w) ∙
      ap (in_window bytes) e

  taken_of : (f : Frame) (rest : List ℕ) → window ≡ take 65536 bytes → value_at 1024 (65536 - length window) 8 window ≡ Ok (f, rest) → Taken 1024 8 window f rest
  taken_of f rest w e = value_takes 1024 (65536 - length window) 8 (omega arith) window (f, rest) (omega (arith, length-take 65536 bytes, ap length w)) e

  pub rest_within : (f : Frame) (rest : List ℕ) → window ≡ take 65536 bytes → value_at 1024 (65536 - length window) 8 window ≡ Ok (f, rest) → length rest ≤ length window
  rest_within f rest w e = let taken = taken_of f rest w e in omega (arith, ap length taken.parts, length-append (spelling f) rest)

  pub frame_ok : (f : Frame) (rest : List ℕ) → window ≡ take 65536 bytes → value_at 1024 (65536 - length window) 8 window ≡ Ok (f, rest) →
      frame_at bytes ≡ Ok (f, drop (length window - length rest) bytes)
  frame_ok f rest w e =
      let taken = taken_of f rest w e in
      let behind = cut bytes (spelling f) rest (sym w ∙ taken.parts) in
      frame_is (Ok (f, rest)) w e ∙ ap (λ (t : List ℕ). Ok (f, t)) (sym behind ∙ ap (λ (t : List ℕ). drop (length t - length rest) bytes) (sym w))

  pub frame_faulty : (fault : FrameFault) → window ≡ take 65536 bytes → value_at 1024 (65536 - length window) 8 window ≡ Err (Faulty fault) → frame_at bytes ≡ Err (Faulty fault)
  frame_faulty fault w e = frame_is (Err (Faulty fault)) w e

  pub frame_too_long : window ≡ take 65536 bytes → value_at 1024 (65536 - length window) 8 window ≡ Err NeedsMore → 65536 < length bytes → frame_at bytes ≡ Err (Faulty TooLong)
  frame_too_long w e lt = frame_is (Err NeedsMore) w e ∙ rw (lt-ltb 65536 (length bytes) lt) refl

  pub frame_needs : window ≡ take 65536 bytes → value_at 1024 (65536 - length window) 8 window ≡ Err NeedsMore → length bytes ≤ 65536 → frame_at bytes ≡ Err NeedsMore
  frame_needs w e le = frame_is (Err NeedsMore) w e ∙ rw (le-ltb 65536 (length bytes) le) refl

waits : (bytes : List ℕ) (r : Result (Frame × List ℕ) Unread) → in_window bytes r ≡ Err NeedsMore → length bytes ≤ 65536
waits bytes (Ok x) e = absurd cc
waits bytes (Err NeedsMore) e = elim (cases_lt 65536 (length bytes)) [
  | inl lt ↦ absurd (let d : Err (Faulty TooLong) ≡ Err NeedsMore = rw (lt-ltb 65536 (length bytes) lt) at e in cc)
  | inr le ↦ le
]
waits bytes (Err (Faulty f)) e = absurd cc

pub waits_within : (bytes : List ℕ) → frame_at bytes ≡ Err NeedsMore → length bytes ≤ 65536
unfolding frame_at
waits_within bytes e = waits bytes (value_at 1024 (65536 - length bytes) 8 (take 65536 bytes)) e
