-- The tables of the hex digits' values, and of the digits of each byte.
use Rattle.std.proofs.Common.{◌≡◌, ℕ, zero, suc, ◌+◌, ◌*◌, ◌/◌, ◌%◌, ◌<◌, ◌≤◌, Bool, true, false, not, cond, ◌&&◌, eqb, nat_lt, List, [], ◌∷◌, length, slice_index_or, refl, ap, ◌∙◌, subst, arith, Some, None}
use Rattle.std.proofs.lemmas.Bool.{and_parts, lt-ltb}
use Rattle.std.proofs.lemmas.Bool.Decides.{nat_tests}
use Rattle.ballot_law.specs.Words.{some_if, is_hex, hex_value, hex_digit}

-- the weight of a byte is its value as a hex digit, and 16 or more where it is none
abbrev is_weight : ℕ → ℕ → Bool
is_weight b w = cond (nat_lt w 16) (is_hex b && eqb w (hex_value b)) (not (is_hex b))

-- the weights of the bytes from this one on
abbrev are_weights : ℕ → List ℕ → Bool
are_weights b [] = true
are_weights b (w ∷ ws) = is_weight b w && are_weights (suc b) ws

weight_at : (b : ℕ) (ws : List ℕ) (i d : ℕ) → are_weights b ws ≡ true → i < length ws → is_weight (b + i) (slice_index_or ws i d) ≡ true
weight_at b [] i d h k = absurd (omega (arith, k))
weight_at b (w ∷ ws) zero d h k =
    let here : b ≡ b + 0 = omega arith in
    subst (λ n. is_weight n w ≡ true) here (and_parts (is_weight b w) (are_weights (suc b) ws) h).0
weight_at b (w ∷ ws) (suc i) d h k =
    let here : suc b + i ≡ b + suc i = omega arith in
    subst (λ n. is_weight n (slice_index_or ws i d) ≡ true) here
    (weight_at (suc b) ws i d (and_parts (is_weight b w) (are_weights (suc b) ws) h).1 (omega (arith, k)))

told_by : (low hex same : Bool) (w v : ℕ) → low ≡ true → cond low (hex && same) (not hex) ≡ true → (same ≡ true → w ≡ v) → Some w ≡ some_if hex v
told_by true true true w v e h f = ap Some (f refl)
told_by true true false w v e h f = absurd cc
told_by true false same w v e h f = absurd cc
told_by false hex same w v e h f = absurd cc

none_by : (low hex same : Bool) (v : ℕ) → low ≡ false → cond low (hex && same) (not hex) ≡ true → None ≡ some_if hex v
none_by true hex same v e h = absurd cc
none_by false true same v e h = absurd cc
none_by false false same v e h = refl

pub digit_told : (ws : List ℕ) (n b d : ℕ) → are_weights 0 ws ≡ true → length ws ≡ n → b < n → slice_index_or ws b d < 16
    → Some (slice_index_or ws b d) ≡ some_if (is_hex b) (hex_value b)
digit_told ws n b d h e k low =
    let w = slice_index_or ws b d in
    let place : 0 + b ≡ b = omega arith in
    let weighs : is_weight b w ≡ true = subst (λ i. is_weight i w ≡ true) place (weight_at 0 ws b d h (omega (arith, e, k))) in
    told_by (nat_lt w 16) (is_hex b) (eqb w (hex_value b)) w (hex_value b) (lt-ltb w 16 low) weighs (λ same. grind (arith, nat_tests, same))

pub none_told : (ws : List ℕ) (n b d : ℕ) → are_weights 0 ws ≡ true → length ws ≡ n → b < n → 16 ≤ slice_index_or ws b d
    → None ≡ some_if (is_hex b) (hex_value b)
none_told ws n b d h e k high =
    let w = slice_index_or ws b d in
    let place : 0 + b ≡ b = omega arith in
    let weighs : is_weight b w ≡ true = subst (λ i. is_weight i w ≡ true) place (weight_at 0 ws b d h (omega (arith, e, k))) in
    let over : nat_lt w 16 ≡ false = grind (arith, nat_tests, high) in
    none_by (nat_lt w 16) (is_hex b) (eqb w (hex_value b)) (hex_value b) over weighs

-- the two digits of each byte from this one on
abbrev are_pairs : ℕ → List ℕ → Bool
are_pairs b [] = true
are_pairs b (x ∷ []) = false
are_pairs b (x ∷ y ∷ rest) = (eqb x (hex_digit (b / 16)) && eqb y (hex_digit (b % 16))) && are_pairs (suc b) rest

pair_at : (b : ℕ) (ds : List ℕ) (i j d : ℕ) → are_pairs b ds ≡ true → j ≡ i + i → j + 1 < length ds
    → (slice_index_or ds j d ≡ hex_digit ((b + i) / 16)) × (slice_index_or ds (j + 1) d ≡ hex_digit ((b + i) % 16))
pair_at b [] i j d h e k = absurd (omega (arith, k))
pair_at b (x ∷ []) i j d h e k = absurd cc
pair_at b (x ∷ y ∷ rest) zero zero d h e k =
    let here = and_parts (eqb x (hex_digit (b / 16)) && eqb y (hex_digit (b % 16))) (are_pairs (suc b) rest) h in
    let both = and_parts (eqb x (hex_digit (b / 16))) (eqb y (hex_digit (b % 16))) here.0 in
    let place : b ≡ b + 0 = omega arith in
    let first : x ≡ hex_digit (b / 16) = grind (arith, nat_tests, both.0) in
    let second : y ≡ hex_digit (b % 16) = grind (arith, nat_tests, both.1) in
    (first ∙ ap (λ n. hex_digit (n / 16)) place, second ∙ ap (λ n. hex_digit (n % 16)) place)
pair_at b (x ∷ y ∷ rest) zero (suc j) d h e k = absurd (omega (arith, e))
pair_at b (x ∷ y ∷ rest) (suc i) zero d h e k = absurd (omega (arith, e))
pair_at b (x ∷ y ∷ rest) (suc i) (suc zero) d h e k = absurd (omega (arith, e))
pair_at b (x ∷ y ∷ rest) (suc i) (suc (suc j)) d h e k =
    let here : suc b + i ≡ b + suc i = omega arith in
    let behind = pair_at (suc b) rest i j d (and_parts (eqb x (hex_digit (b / 16)) && eqb y (hex_digit (b % 16))) (are_pairs (suc b) rest) h).1 (omega (arith, e))
    (omega (arith, k)) in
    let next : suc (suc j) + 1 ≡ suc (suc (j + 1)) = omega arith in
    (behind.0 ∙ ap (λ n. hex_digit (n / 16)) here, ap (λ k. slice_index_or (x ∷ y ∷ rest) k d) next ∙ behind.1 ∙ ap (λ n. hex_digit (n % 16)) here)

-- the last two digits of a number are those of its last byte
pub two_told : (ds : List ℕ) (size number j d : ℕ) → are_pairs 0 ds ≡ true → length ds ≡ size → j ≡ number % 256 * 2 → j + 1 < size
    → (slice_index_or ds j d ≡ hex_digit (number / 16 % 16)) × (slice_index_or ds (j + 1) d ≡ hex_digit (number % 16))
two_told ds size number j d h e f k =
    let found = pair_at 0 ds (number % 256) j d h (omega (arith, f)) (omega (arith, e, k)) in
    let first : (0 + number % 256) / 16 ≡ number / 16 % 16 = omega arith in
    let second : (0 + number % 256) % 16 ≡ number % 16 = omega arith in
    (found.0 ∙ ap hex_digit first, found.1 ∙ ap hex_digit second)
