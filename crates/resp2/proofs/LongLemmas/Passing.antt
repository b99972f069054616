-- A text of which the bytes behind the first 65,536 were passed over tells the same.
use Rattle.std.proofs.Common.{◌≡◌, ℕ, ◌+◌, ◌-◌, ◌≤◌, cond, ltb, List, ◌++◌, length, take, drop, replicate, Result, Ok, Err, sym, ap, subst, ◌∙◌, append_assoc, arith, inl, inr}
use Rattle.std.proofs.Math.Seq.{take-append-add, drop-append-add}
use Rattle.std.proofs.lemmas.Bool.{lt-ltb, cases_lt}
use Rattle.std.proofs.lemmas.List.{append-nil, take-append-drop, length-append, length-take, take_all, take-append-le, length-replicate}
use Rattle.ballot_law.specs.Results.{◌>>=◌}
use Rattle.resp2.specs.declared.framing.fault.Unread.{Unread}
use Rattle.resp2.specs.declared.framing.fault.Unread.TheVariants.{NeedsMore}
use Rattle.resp2.specs.Framing.Frame.{Frame, bulk}
use Rattle.resp2.specs.Framing.Reading.{end_at}
use Rattle.resp2.specs.Long.LongValues.{whole_lines, told_of, passed_over, passed_in, long_value_in}

-- ---- a text and what is behind it

pub take_over : (n : ℕ) (front rest : List ℕ) → length front ≤ n → take n (front ++ rest) ≡ front ++ take (n - length front) rest
take_over n front rest le =
    let e : n ≡ length front + (n - length front) = omega arith in
    ap (λ (k : ℕ). take k (front ++ rest)) e ∙ take-append-add front rest (n - length front)

pub drop_over : (n : ℕ) (front rest : List ℕ) → length front ≤ n → drop n (front ++ rest) ≡ drop (n - length front) rest
drop_over n front rest le =
    let e : n ≡ length front + (n - length front) = omega arith in
    ap (λ (k : ℕ). drop k (front ++ rest)) e ∙ drop-append-add front rest (n - length front)

-- ---- texts that tell the same

pub record IsAlike (x y : List ℕ) : Type 0 where
  pub long : length x ≡ length y
  pub first : take 65536 x ≡ take 65536 y

pub passed_short : (text : List ℕ) → length text ≤ 65536 → passed_over text ≡ text
passed_short text le =
    let none : length text - 65536 ≡ 0 = omega arith in
    ap (λ (t : List ℕ). t ++ replicate (length text - 65536) 0) (take_all 65536 text le)
    ∙ ap (λ (n : ℕ). text ++ replicate n 0) none ∙ append-nil text

pub length_passed : (text : List ℕ) → length (passed_over text) ≡ length text
length_passed text = omega (arith, length-append (take 65536 text) (replicate (length text - 65536) 0), length-take 65536 text, length-replicate {A = ℕ} (length text - 65536) 0)

pub passed_alike : (text : List ℕ) → IsAlike (passed_over text) text
passed_alike text = elim (cases_lt 65536 (length text)) [
  | inl lt ↦
      let zeros : List ℕ = replicate (length text - 65536) 0 in
      let full : length (take 65536 text) ≡ 65536 = omega (arith, length-take 65536 text) in
      record {
        long = length_passed text;
        first = take-append-le 65536 (take 65536 text) zeros (omega arith) ∙ take_all 65536 (take 65536 text) (omega arith);
      }
  | inr le ↦ record { long = length_passed text; first = ap (take 65536) (passed_short text le) }
]

alike_short : (x y : List ℕ) → IsAlike x y → length x ≤ 65536 → x ≡ y
alike_short x y h le = let long = h.long in sym (take_all 65536 x le) ∙ h.first ∙ take_all 65536 y (omega arith)

pub told_alike : (x y : List ℕ) → IsAlike x y → told_of x ≡ told_of y
told_alike x y h = elim (cases_lt 65536 (length x)) [
  | inl lt ↦ let long = h.long in rw (lt-ltb 65536 (length x) lt, lt-ltb 65536 (length y) (omega arith)) (ap whole_lines h.first)
  | inr le ↦ ap told_of (alike_short x y h le)
]

pub passed_same : (x y : List ℕ) → IsAlike x y → passed_over x ≡ passed_over y
passed_same x y h =
    ap (λ (t : List ℕ). t ++ replicate (length x - 65536) 0) h.first ∙ ap (λ (n : ℕ). take 65536 y ++ replicate (n - 65536) 0) h.long

alike_more : (x y rest : List ℕ) → IsAlike x y → IsAlike (x ++ rest) (y ++ rest)
alike_more x y rest h =
    let long = h.long in
    let longer : length (x ++ rest) ≡ length (y ++ rest) = omega (arith, length-append x rest, length-append y rest) in
    elim (cases_lt (length x) 65536) [
      | inl lt ↦ record { long = longer; first = ap (λ (t : List ℕ). take 65536 (t ++ rest)) (alike_short x y h (omega arith)) }
      | inr le ↦ record {
        long = longer;
        first = take-append-le 65536 x rest le ∙ h.first ∙ sym (take-append-le 65536 y rest (omega arith));
      }
    ]

-- ---- a bulk string of this size, and what is behind it

pub record IsSame (size : ℕ) (x y : List ℕ) : Type 0 where
  pub long : length x ≡ length y
  pub text : IsAlike (take size x) (take size y)
  pub rest : drop size x ≡ drop size y

same_front : (size : ℕ) (text rest : List ℕ) → length text ≤ size → IsSame size (passed_over text ++ rest) (text ++ rest)
same_front size text rest le =
    let len = length_passed text in
    let passed = passed_over text in
    let within : length passed ≤ size = omega arith in
    let left : size - length passed ≡ size - length text = omega arith in
    let first : take size (passed ++ rest) ≡ passed ++ take (size - length text) rest =
    take_over size passed rest within ∙ ap (λ (n : ℕ). passed ++ take n rest) left in
    let second : take size (text ++ rest) ≡ text ++ take (size - length text) rest = take_over size text rest le in
    record {
      long = omega (arith, length-append passed rest, length-append text rest);
      text = subst (λ (t : List ℕ). IsAlike t (take size (text ++ rest))) (sym first)
          (subst (λ (t : List ℕ). IsAlike (passed ++ take (size - length text) rest) t) (sym second)
          (alike_more passed text (take (size - length text) rest) (passed_alike text)));
      rest = drop_over size passed rest within ∙ ap (λ (n : ℕ). drop n rest) left ∙ sym (drop_over size text rest le);
    }

pub same_passed : (size : ℕ) (bytes piece : List ℕ) → IsSame size (passed_in size bytes ++ piece) (bytes ++ piece)
same_passed size bytes piece =
    let text = take size bytes in
    let rest = drop size bytes ++ piece in
    let le : length text ≤ size = omega (arith, length-take size bytes) in
    let passed : passed_in size bytes ++ piece ≡ passed_over text ++ rest = append_assoc (passed_over text) (drop size bytes) piece in
    let whole : bytes ++ piece ≡ text ++ rest =
    ap (λ (t : List ℕ). t ++ piece) (sym (take-append-drop size bytes)) ∙ append_assoc text (drop size bytes) piece in
    subst (λ (t : List ℕ). IsSame size t (bytes ++ piece)) (sym passed) (subst (λ (t : List ℕ). IsSame size (passed_over text ++ rest) t) (sym whole)
    (same_front size text rest le))

pub value_same : (size : ℕ) (x y : List ℕ) → IsSame size x y → long_value_in size x ≡ long_value_in size y
value_same size x y h =
    let more : Result (Frame × List ℕ) Unread = Err NeedsMore in
    ap (λ (n : ℕ). cond (ltb n size) more (end_at (drop size x) >>= λ rest. Ok (bulk (told_of (take size x)), rest))) h.long
    ∙ ap (λ (t : List ℕ). cond (ltb (length y) size) more (end_at t >>= λ rest. Ok (bulk (told_of (take size x)), rest))) h.rest
    ∙ ap (λ (t : List ℕ). cond (ltb (length y) size) more (end_at (drop size y) >>= λ rest. Ok (bulk t, rest))) (told_alike (take size x) (take size y) h.text)

pub passed_in_same : (size : ℕ) (x y : List ℕ) → IsSame size x y → passed_in size x ≡ passed_in size y
passed_in_same size x y h =
    ap (λ (t : List ℕ). t ++ drop size x) (passed_same (take size x) (take size y) h.text) ∙ ap (λ (t : List ℕ). passed_over (take size y) ++ t) h.rest
