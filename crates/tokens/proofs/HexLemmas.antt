-- Hex digits, read one at a time.
use Rattle.std.proofs.Common.{◌≡◌, ℕ, zero, suc, ◌+◌, ◌*◌, ◌/◌, ◌%◌, ◌^◌, ◌≤◌, ◌<◌, List, [], ◌∷◌, ◌++◌, length, append_assoc, append-nil, refl, ap, sym, ◌∙◌, arith, Option}
use Rattle.std.specs.List.{list_all}
use Rattle.std.proofs.Math.Nat.{pow-le-pow_right, pow-suc, add-mul, add_assoc, mul_assoc, mul_comm}
use Rattle.ballot_law.specs.Words.{some_if, is_hex, hex_value, hex_on, hex, hex_digit}
use Rattle.ballot_law.proofs.WordLemmas.{hex_on-append}

-- the number that these digits make after the number so far
abbrev pub hex_tail : ℕ → List ℕ → Option ℕ
hex_tail n bs = some_if (list_all is_hex bs) (hex_on n bs)

-- below 16 digits there is room for one more in 64 bits
pub hex_room : (i : ℕ) → i < 16 → 16 ^ i ≤ 16 ^ 15
hex_room i h = pow-le-pow_right {n = 16} (omega arith) {i = i} {j = 15} (omega arith)

-- digits behind a number
hex_on-behind : (n : ℕ) (bs : List ℕ) → hex_on n bs ≡ n * 16 ^ length bs + hex_on 0 bs
hex_on-behind n [] = omega arith
hex_on-behind n (b ∷ bs) =
    let v = hex_value b in
    let p = 16 ^ length bs in
    let rest = hex_on 0 bs in
    let none : 0 * 16 + v ≡ v = omega arith in
    let place : n * 16 ^ suc (length bs) ≡ n * 16 * p = ap (λ t. n * t) (pow-suc 16 (length bs) ∙ mul_comm p 16) ∙ sym (mul_assoc n 16 p) in
    hex_on-behind (n * 16 + v) bs
    ∙ ap (λ t. t + rest) (add-mul (n * 16) v p)
    ∙ add_assoc (n * 16 * p) (v * p) rest
    ∙ ap (λ t. t + (v * p + rest)) (sym place)
    ∙ ap (λ t. n * 16 ^ suc (length bs) + t) (sym (ap (λ t. hex_on t bs) none ∙ hex_on-behind v bs))

-- 32 digits are twice 16
pub hex_halves : (xs ys : List ℕ) → length ys ≡ 16 → hex_on 0 (xs ++ ys) ≡ hex_on 0 xs * 2 ^ 64 + hex_on 0 ys
hex_halves xs ys h = hex_on-append 0 xs ys ∙ hex_on-behind (hex_on 0 xs) ys ∙ ap (λ k. hex_on 0 xs * 16 ^ k + hex_on 0 ys) h

-- ---- eight digits at a time

-- the number before its last k digits
abbrev pub before : ℕ → ℕ → ℕ
before zero n = n
before (suc k) n = before k (n / 16)

pub eight_digits : (n : ℕ) → hex 8 n ≡ hex_digit (before 7 n % 16) ∷ hex_digit (before 6 n % 16) ∷ hex_digit (before 5 n % 16) ∷ hex_digit (before 4 n % 16) ∷
    hex_digit (before 3 n % 16) ∷ hex_digit (before 2 n % 16) ∷ hex_digit (before 1 n % 16) ∷ hex_digit (n % 16) ∷ []
unfolding hex
eight_digits n = refl

abbrev behind : ℕ → ℕ → ℕ
behind zero k = k
behind (suc j) k = suc (behind j k)

hex_joined : (j k n : ℕ) → hex (behind j k) n ≡ hex k (before j n) ++ hex j n
unfolding hex
hex_joined zero k n = sym (append-nil (hex k n))
hex_joined (suc j) k n = ap (λ t. t ++ hex_digit (n % 16) ∷ []) (hex_joined j k (n / 16)) ∙ append_assoc (hex k (before j (n / 16))) (hex j (n / 16)) (hex_digit (n % 16) ∷ [])

-- 32 digits are four times eight
pub thirty_two : (n : ℕ) → hex 32 n ≡ ((hex 8 (before 8 (before 8 (before 8 n))) ++ hex 8 (before 8 (before 8 n))) ++ hex 8 (before 8 n)) ++ hex 8 n
thirty_two n = hex_joined 8 24 n ∙ ap (λ t. t ++ hex 8 n) (hex_joined 8 16 (before 8 n) ∙ ap (λ t. t ++ hex 8 (before 8 n)) (hex_joined 8 8 (before 8 (before 8 n))))

-- the digits of an id, written in five steps
pub five_steps : (hi lo first second third : ℕ) → third ≡ before 8 hi → second ≡ before 8 third → first ≡ before 8 second
    → (((hex 8 first ++ hex 8 second) ++ hex 8 third) ++ hex 8 hi) ++ hex 8 lo ≡ hex 32 hi ++ hex 8 lo
five_steps hi lo first second third e f g =
    ap (λ t. t ++ hex 8 lo) (rw (g, f, e) (sym (thirty_two hi)))
