-- Numbers: what is read as one is spelled so, and what is spelled so is read.
use Rattle.std.proofs.Common.{◌≡◌, ◌≢◌, ℕ, suc, ◌+◌, ◌-◌, ◌*◌, ◌^◌, ◌<◌, min, Bool, true, false, not, cond, eqb, ltb, leb, ◌&&◌, ◌⊎◌, List, [], ◌∷◌, ◌++◌, length, get_or, take, drop, Option, Some, None, Ok, Err, decimal, refl, sym, ap, subst, ◌∙◌, arith, inl, inr}
use Rattle.std.specs.Prelude.{ℤ, pos, negsuc, bytes_eq}
use Rattle.std.specs.Fmt.{signed_decimal}
use Rattle.std.specs.Str.{all_ascii_digits}
use Rattle.std.specs.Char.{is_ascii_digit}
use Rattle.std.proofs.lemmas.Option.{same_Some}
use Rattle.std.proofs.lemmas.Bool.{eqb-true, and_parts, and_from, ltb-true, lt-ltb, leb-true, le-leb}
use Rattle.std.proofs.lemmas.Bool.Decides.{nat_tests}
use Rattle.std.proofs.lemmas.List.{take_more, at_drop_more}
use Rattle.std.proofs.lemmas.Slice.Eq.{bytes_eq-Decides}
use Rattle.std.proofs.lemmas.Fmt.{digits_decimal, digits_value-decimal, decimal-digits_value, decimal_nonempty}
use Rattle.std.proofs.lemmas.Str.Parse.{IsNumeralModel, numerals_by_fold, tells_all_ascii_digits}
use Rattle.resp2.specs.declared.framing.fault.FrameFault.TheVariants.{BadLength}
use Rattle.resp2.specs.declared.framing.fault.Unread.TheVariants.{Faulty}
use Rattle.resp2.specs.Framing.Frame.{IsLine, IsLong}
use Rattle.ballot_law.specs.Words.{are_digits, has_leading_zero, is_decimal, number_on}
use Rattle.ballot_law.proofs.WordLemmas.{decimal_leads}
use Rattle.resp2.specs.Framing.Reading.{if_some, number_of, size_of, negative_of, integer_of}
use Rattle.resp2.proofs.FramingLemmas.Steps.{chosen}

pub own : IsNumeralModel (λ ds. all_ascii_digits ds ≡ true) (number_on 0)
own = numerals_by_fold _ tells_all_ascii_digits number_on (record { empty = λ n. refl; more = λ n c cs h. refl })

-- the first byte of a decimal is 0 only where it is the only one
leads : (b : ℕ) (bs : List ℕ) → not (has_leading_zero (b ∷ bs)) ≡ true → b ≡ 48 → length (b ∷ bs) ≡ 1
leads b bs e zero_first = grind (arith, nat_tests, e, zero_first)

pub number_takes : (line : List ℕ) (n : ℕ) → n < 2 ^ 64 - 1 → number_of line ≡ Some n → line ≡ decimal n
unfolding number_of
number_takes [] n lt e = absurd cc
number_takes (b ∷ bs) n lt e =
    elim (chosen (is_decimal (b ∷ bs)) (Some (min (number_on 0 (b ∷ bs)) (2 ^ 64 - 1))) None (Some n) e) [
      | inl w ↦
          let least : min (number_on 0 (b ∷ bs)) (2 ^ 64 - 1) ≡ n = same_Some (min (number_on 0 (b ∷ bs)) (2 ^ 64 - 1)) n w.1 in
          let n_is : number_on 0 (b ∷ bs) ≡ n = omega arith in
          let parts = and_parts (are_digits (b ∷ bs)) (not (has_leading_zero (b ∷ bs))) w.0 in
          let digits = and_parts (ltb 0 (length (b ∷ bs))) (all_ascii_digits (b ∷ bs)) parts.0 in
          let back = decimal-digits_value own (b ∷ bs) digits.1 (omega arith) (leads b bs parts.1) (omega arith) in
          sym back ∙ ap decimal n_is
      | inr w ↦ absurd cc
    ]

is_decimal_from : (ds : List ℕ) → all_ascii_digits ds ≡ true → 0 < length ds → (get_or ds 0 0 ≡ 48 → length ds ≡ 1) → is_decimal ds ≡ true
is_decimal_from ds all some lead =
    and_from (are_digits ds) (not (has_leading_zero ds)) (and_from (ltb 0 (length ds)) (all_ascii_digits ds) (lt-ltb 0 (length ds) some) all)
    (at_tests (ltb 1 (length ds)) (eqb (get_or ds 0 0) 48) refl refl)
  where
    at_tests : (u v : Bool) → ltb 1 (length ds) ≡ u → eqb (get_or ds 0 0) 48 ≡ v → not (u && v) ≡ true
    at_tests true true long zero_first = absurd (let one = lead (eqb-true (get_or ds 0 0) 48 zero_first) in let more = ltb-true 1 (length ds) long in omega arith)
    at_tests true false long zero_first = refl
    at_tests false v long zero_first = refl

pub number_again : (n : ℕ) → n < 2 ^ 64 → number_of (decimal n) ≡ Some n
unfolding number_of
number_again n lt =
    let all = digits_decimal own n lt in
    let test : is_decimal (decimal n) ≡ true = is_decimal_from (decimal n) all (decimal_nonempty n lt) (decimal_leads n lt) in
    let least : min n (2 ^ 64 - 1) ≡ n = omega arith in
    rw (test, digits_value-decimal own n lt, least) refl

digit_apart : (c : ℕ) → is_ascii_digit c ≡ true → (c ≢ 13) × (c ≢ 10)
digit_apart c d =
    let low = leb-true 48 c (and_parts (leb 48 c) (leb c 57) d).0 in
    ((λ e. omega arith), (λ e. omega arith))

pub digits_line : (ds : List ℕ) → all_ascii_digits ds ≡ true → IsLine ds
digits_line [] e = tt
digits_line (b ∷ bs) e = let parts = and_parts (is_ascii_digit b) (all_ascii_digits bs) e in (digit_apart b parts.0, digits_line bs parts.1)

pub decimal_line : (n : ℕ) → n < 2 ^ 64 → IsLine (decimal n)
decimal_line n lt = digits_line (decimal n) (digits_decimal own n lt)

-- ---- lengths

abbrev minus_one : List ℕ
minus_one = 45 ∷ 49 ∷ []

size_cases : (o : Option ℕ) (line : List ℕ) (size : Option ℕ) → number_of line ≡ o →
    if_some o (λ n. Ok (Some n)) (cond (bytes_eq line minus_one) (Ok None) (Err (Faulty BadLength))) ≡ Ok size
    → ((n : ℕ) × (size ≡ Some n) × (number_of line ≡ Some n)) ⊎ ((size ≡ None) × (line ≡ minus_one))
size_cases (Some n) line size e h = inl (n, cc, e)
size_cases None line size e h = elim (chosen (bytes_eq line minus_one) (Ok None) (Err (Faulty BadLength)) (Ok size) h) [
  | inl w ↦ inr (cc, (bytes_eq-Decides line minus_one).0 w.0)
  | inr w ↦ absurd cc
]

pub size_takes : (line : List ℕ) (size : Option ℕ) → size_of line ≡ Ok size → ((n : ℕ) × (size ≡ Some n) × (number_of line ≡ Some n)) ⊎ ((size ≡ None) × (line ≡ minus_one))
unfolding size_of
size_takes line size e = size_cases (number_of line) line size refl e

pub size_again : (n : ℕ) → n < 2 ^ 64 → size_of (decimal n) ≡ Ok (Some n)
unfolding size_of
size_again n lt = rw (number_again n lt) refl

pub null_again : size_of minus_one ≡ Ok None
unfolding size_of number_of
null_again = refl

pub null_line : IsLine minus_one
null_line = (((λ e. omega arith), (λ e. omega arith)), (((λ e. omega arith), (λ e. omega arith)), tt))

-- ---- integers

negative_takes : (line : List ℕ) (n : ℤ) → negative_of line ≡ Some n → (line ≡ signed_decimal n) × IsLong n
negative_takes [] n e = absurd cc
negative_takes (b ∷ bs) n e = elim (chosen (eqb b 45) (if_some (number_of bs) (λ k. cond (ltb 0 k && leb k (2 ^ 63)) (Some (negsuc (k - 1))) None) None) None (Some n) e) [
  | inl w ↦ below (eqb-true b 45 w.0) (number_of bs) refl w.1
  | inr w ↦ absurd cc
]
  where
    below : b ≡ 45 → (o : Option ℕ) → number_of bs ≡ o → if_some o (λ k. cond (ltb 0 k && leb k (2 ^ 63)) (Some (negsuc (k - 1))) None) None ≡ Some n →
        (b ∷ bs ≡ signed_decimal n) × IsLong n
    below sign (Some k) d h =
        elim (chosen (ltb 0 k && leb k (2 ^ 63)) (Some (negsuc (k - 1))) None (Some n) h) [
          | inl w ↦
              let parts = and_parts (ltb 0 k) (leb k (2 ^ 63)) w.0 in
              let above = ltb-true 0 k parts.0 in
              let le = leb-true k (2 ^ 63) parts.1 in
              let text : bs ≡ decimal k = number_takes bs k (omega arith) d in
              let back : suc (k - 1) ≡ k = omega arith in
              let n_is : negsuc (k - 1) ≡ n = same_Some (negsuc (k - 1)) n w.1 in
              let made : (b ∷ bs ≡ 45 ∷ decimal (suc (k - 1))) × (k - 1 < 2 ^ 63) = (rw (sign, text, back) refl, omega arith) in
              subst (λ (z : ℤ). (b ∷ bs ≡ signed_decimal z) × IsLong z) n_is made
          | inr w ↦ absurd cc
        ]
    below sign None d h = absurd cc

integer_cases : (o : Option ℕ) (line : List ℕ) (n : ℤ) → number_of line ≡ o → if_some o (λ k. cond (ltb k (2 ^ 63)) (Some (pos k)) None) (negative_of line) ≡ Some n →
    (line ≡ signed_decimal n) × IsLong n
integer_cases (Some k) line n d h =
    elim (chosen (ltb k (2 ^ 63)) (Some (pos k)) None (Some n) h) [
      | inl w ↦
          let lt = ltb-true k (2 ^ 63) w.0 in
          let n_is : pos k ≡ n = same_Some (pos k) n w.1 in
          let made : (line ≡ decimal k) × (k < 2 ^ 63) = (number_takes line k (omega arith) d, lt) in
          subst (λ (z : ℤ). (line ≡ signed_decimal z) × IsLong z) n_is made
      | inr w ↦ absurd cc
    ]
integer_cases None line n d h = negative_takes line n h

pub integer_takes : (line : List ℕ) (n : ℤ) → integer_of line ≡ Some n → (line ≡ signed_decimal n) × IsLong n
unfolding integer_of
integer_takes line n e = integer_cases (number_of line) line n refl e

signed_none : (ds : List ℕ) → number_of (45 ∷ ds) ≡ None
unfolding number_of
signed_none ds = ap (λ (t : Bool). cond ((t && all_ascii_digits (45 ∷ ds)) && not (has_leading_zero (45 ∷ ds))) (Some (min (number_on 0 (45 ∷ ds)) (2 ^ 64 - 1))) None)
    (lt-ltb 0 (length (45 ∷ ds)) (omega arith))

pub integer_again : (n : ℤ) → IsLong n → integer_of (signed_decimal n) ≡ Some n
unfolding integer_of
integer_again (pos k) lt = let small : k < 2 ^ 64 = omega arith in rw (number_again k small, lt-ltb k (2 ^ 63) lt) refl
integer_again (negsuc k) lt =
    let small : suc k < 2 ^ 64 = omega arith in
    let above : ltb 0 (suc k) ≡ true = lt-ltb 0 (suc k) (omega arith) in
    let le : leb (suc k) (2 ^ 63) ≡ true = le-leb (suc k) (2 ^ 63) (omega arith) in
    let back : suc k - 1 ≡ k = omega arith in
    rw (signed_none (decimal (suc k)), number_again (suc k) small, above, le, back) refl

pub integer_line : (n : ℤ) → IsLong n → IsLine (signed_decimal n)
integer_line (pos k) lt = decimal_line k (omega arith)
integer_line (negsuc k) lt = (((λ e. omega arith), (λ e. omega arith)), decimal_line (suc k) (omega arith))

-- ---- one digit more, as a loop reads it

number_on_push : (n : ℕ) (xs : List ℕ) (c : ℕ) → number_on n (xs ++ c ∷ []) ≡ number_on n xs * 10 + (c - 48)
number_on_push n [] c = refl
number_on_push n (x ∷ xs) c = number_on_push (n * 10 + (x - 48)) xs c

pub next_number : (line : List ℕ) (i : ℕ) → i < length line → number_on 0 (take (i + 1) line) ≡ number_on 0 (take i line) * 10 + (get_or line i 0 - 48)
next_number line i lt = ap (number_on 0) (take_more line i 0 lt) ∙ number_on_push 0 (take i line) (get_or line i 0)

pub next_digits : (line : List ℕ) (i : ℕ) → i < length line → is_ascii_digit (get_or line i 0) ≡ true → all_ascii_digits (drop i line) ≡ all_ascii_digits (drop (i + 1) line)
next_digits line i lt digit =
    let step : all_ascii_digits (drop i line) ≡ is_ascii_digit (get_or line i 0) && all_ascii_digits (drop (i + 1) line) = at_drop_more all_ascii_digits line i 0 lt in
    step ∙ ap (λ (b : Bool). b && all_ascii_digits (drop (i + 1) line)) digit

pub capped : (v n m d f r : ℕ) → n ≡ min v (2 ^ 64 - 1) → m ≡ min (n * 10) (2 ^ 64 - 1) → f ≡ d → r ≡ min (m + f) (2 ^ 64 - 1) → r ≡ min (v * 10 + d) (2 ^ 64 - 1)
capped v n m d f r = λ a b c e. omega arith
