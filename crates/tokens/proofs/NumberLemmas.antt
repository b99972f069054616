-- Decimal digits, read one at a time.
use Rattle.std.proofs.Common.{◌≡◌, ℕ, ◌+◌, ◌-◌, ◌*◌, ◌^◌, ◌≤◌, ◌<◌, Bool, true, false, cond, ◌&&◌, eqb, ltb, leb, List, [], ◌∷◌, length, get_or, refl, ap, sym, ◌∙◌, arith, Option, Some, None, decimal}
use Rattle.std.specs.List.{list_all}
use Rattle.std.proofs.lemmas.Bool.{eqb-true, and_parts, and_from, ltb-true, leb-true, le-leb}
use Rattle.std.proofs.lemmas.Bool.Decides.{nat_tests}
use Rattle.std.proofs.lemmas.Fmt.{decimal-digits_value}
use Rattle.std.proofs.lemmas.Str.Parse.{IsNumeralModel, IsDigitsTest, FoldsDigits, numerals_by_fold}
use Rattle.ballot_law.specs.Words.{some_if, then_some, is_digit, has_leading_zero, number_on, number_within, canonical_within}
use Rattle.ballot_law.specs.Orders.{same_bytes}
use Rattle.ballot_law.proofs.WordLemmas.{some_if-some, same_bytes-refl, same_bytes-true, some_if-is, some_if-none, decimal_leads}

-- the number within the bounds that these digits make after the number so far
abbrev pub tail_within : ℕ → ℕ → ℕ → List ℕ → Option ℕ
tail_within low high n bs = then_some (some_if (list_all is_digit bs) (number_on n bs)) (λ n. some_if (leb low n && leb n high) n)

number_on-grows : (n : ℕ) (bs : List ℕ) → n ≤ number_on n bs
number_on-grows n [] = omega arith
number_on-grows n (b ∷ bs) = let more : n * 10 + (b - 48) ≤ number_on (n * 10 + (b - 48)) bs = number_on-grows (n * 10 + (b - 48)) bs in omega arith

test_over : (low high v : ℕ) → high < v → (leb low v && leb v high) ≡ false
test_over low high v h = grind (arith, nat_tests)

over_by : (low high v : ℕ) (t : Bool) → high < v → then_some (some_if t v) (λ n. some_if (leb low n && leb n high) n) ≡ None
over_by low high v true h = ap (λ t. some_if t v) (test_over low high v h)
over_by low high v false h = refl

tail_over : (low high n : ℕ) (bs : List ℕ) → high < n → tail_within low high n bs ≡ None
tail_over low high n bs h =
    let more = number_on-grows n bs in
    over_by low high (number_on n bs) (list_all is_digit bs) (omega arith)

tail_digit : (low high n c : ℕ) (bs : List ℕ) → is_digit c ≡ true → tail_within low high n (c ∷ bs) ≡ tail_within low high (n * 10 + (c - 48)) bs
tail_digit low high n c bs e = ap (λ t. then_some (some_if (t && list_all is_digit bs) (number_on (n * 10 + (c - 48)) bs)) (λ n. some_if (leb low n && leb n high) n)) e

tail_other : (low high n c : ℕ) (bs : List ℕ) → is_digit c ≡ false → tail_within low high n (c ∷ bs) ≡ None
tail_other low high n c bs e = ap (λ t. then_some (some_if (t && list_all is_digit bs) (number_on (n * 10 + (c - 48)) bs)) (λ n. some_if (leb low n && leb n high) n)) e

stops_by : (low high n c : ℕ) (bs : List ℕ) (t : Bool) → is_digit c ≡ t → high < 2 ^ 64 → (t && ltb (n * 10 + (c - 48)) (2 ^ 64)) ≡ false → tail_within low high n (c ∷ bs) ≡ None
stops_by low high n c bs true e h f =
    let over : 2 ^ 64 ≤ n * 10 + (c - 48) = grind (arith, nat_tests, f) in
    tail_digit low high n c bs e ∙ tail_over low high (n * 10 + (c - 48)) bs (omega arith)
stops_by low high n c bs false e h f = tail_other low high n c bs e

pub digit_stops : (low high n c : ℕ) (bs : List ℕ) → high < 2 ^ 64 → None ≡ some_if (is_digit c && ltb (n * 10 + (c - 48)) (2 ^ 64)) (n * 10 + (c - 48)) →
    tail_within low high n (c ∷ bs) ≡ None
digit_stops low high n c bs h e = stops_by low high n c bs (is_digit c) refl h (some_if-none (is_digit c && ltb (n * 10 + (c - 48)) (2 ^ 64)) (n * 10 + (c - 48)) (sym e))

-- ---- numbers without leading zeros

tells : IsDigitsTest (λ ds. list_all is_digit ds ≡ true)
tells = record {
  empty = refl;
  parts = λ c cs e. let k = and_parts (is_digit c) (list_all is_digit cs) e in let m = and_parts (leb 48 c) (leb c 57) k.0 in ((leb-true 48 c m.0, leb-true c 57 m.1), k.1);
  more = λ c cs k e. and_from (is_digit c) (list_all is_digit cs) (and_from (leb 48 c) (leb c 57) (le-leb 48 c k.0) (le-leb c 57 k.1)) e;
}

folds : FoldsDigits number_on
folds = record { empty = λ n. refl; more = λ n c cs k. refl }

own : IsNumeralModel (λ ds. list_all is_digit ds ≡ true) (number_on 0)
own = numerals_by_fold (λ ds. list_all is_digit ds ≡ true) tells number_on folds

pub record IsNumberOf (n : ℕ) (bs : List ℕ) : Type 0 where
  pub some : 0 < length bs
  pub digits : list_all is_digit bs ≡ true
  pub value : number_on 0 bs ≡ n

within_some : (low high n : ℕ) (o : Option ℕ) → then_some o (λ m. some_if (leb low m && leb m high) m) ≡ Some n → o ≡ Some n
within_some low high n None e = absurd cc
within_some low high n (Some m) e = ap Some (some_if-is (leb low m && leb m high) m n e).1

number_is : (low high n : ℕ) (bs : List ℕ) → number_within low high bs ≡ Some n → IsNumberOf n bs
number_is low high n bs e =
    let test = ltb 0 (length bs) && list_all is_digit bs in
    let o : some_if test (number_on 0 bs) ≡ Some n = within_some low high n (some_if test (number_on 0 bs)) e in
    let both = and_parts (ltb 0 (length bs)) (list_all is_digit bs) (some_if-some test (number_on 0 bs) n o) in
    record { some = ltb-true 0 (length bs) both.0; digits = both.1; value = (some_if-is test (number_on 0 bs) n o).1 }

canonical_of : (low high n : ℕ) (bs : List ℕ) → number_within low high bs ≡ Some n → canonical_within low high bs ≡ some_if (same_bytes bs (decimal n)) n
canonical_of low high n bs e = ap (λ o. then_some o (λ m. some_if (same_bytes bs (decimal m)) m)) e

other_by : (n : ℕ) (bs : List ℕ) (t : Bool) → same_bytes bs (decimal n) ≡ t → n < 2 ^ 64 → get_or bs 0 0 ≡ 48 → 1 < length bs → some_if t n ≡ None
other_by n bs true e h z l =
    let same : bs ≡ decimal n = same_bytes-true bs (decimal n) e in
    let one : length (decimal n) ≡ 1 = decimal_leads n h (ap (λ ds. get_or ds 0 0) (sym same) ∙ z) in
    let len : length bs ≡ length (decimal n) = ap length same in
    absurd (omega arith)
other_by n bs false e h z l = refl

canonical_other : (low high n : ℕ) (bs : List ℕ) → n < 2 ^ 64 → number_within low high bs ≡ Some n → get_or bs 0 0 ≡ 48 → 1 < length bs → canonical_within low high bs ≡ None
canonical_other low high n bs h e z l = canonical_of low high n bs e ∙ other_by n bs (same_bytes bs (decimal n)) refl h z l

canonical_same : (low high n : ℕ) (bs : List ℕ) → n < 2 ^ 64 → number_within low high bs ≡ Some n → (get_or bs 0 0 ≡ 48 → length bs ≤ 1) → canonical_within low high bs ≡ Some n
canonical_same low high n bs h e z =
    let k = number_is low high n bs e in
    let lead : get_or bs 0 0 ≡ 48 → length bs ≡ 1 = λ i. let le = z i in let some = k.some in omega arith in
    let small : number_on 0 bs < 2 ^ 64 = let v = k.value in omega arith in
    let back : decimal (number_on 0 bs) ≡ bs = decimal-digits_value own bs k.digits k.some lead small in
    let text : bs ≡ decimal n = sym back ∙ ap decimal k.value in
    let same : same_bytes bs (decimal n) ≡ true = ap (same_bytes bs) (sym text) ∙ same_bytes-refl bs in
    canonical_of low high n bs e ∙ ap (λ t. some_if t n) same

-- by whether a zero stands before other digits
pub canonical_by_lead : (low high n : ℕ) (bs : List ℕ) (v : Bool) → n < 2 ^ 64 → number_within low high bs ≡ Some n → has_leading_zero bs ≡ v →
    canonical_within low high bs ≡ cond v None (Some n)
canonical_by_lead low high n bs true h e z =
    let both = and_parts (ltb 1 (length bs)) (eqb (get_or bs 0 0) 48) z in
    canonical_other low high n bs h e (eqb-true (get_or bs 0 0) 48 both.1) (ltb-true 1 (length bs) both.0)
canonical_by_lead low high n bs false h e z = canonical_same low high n bs h e (λ lead. grind (arith, nat_tests, z, lead))
