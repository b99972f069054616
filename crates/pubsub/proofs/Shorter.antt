-- What is left of a pattern is no longer than the pattern.
use Rattle.std.proofs.Common.{◌≤◌, ℕ, List, [], ◌∷◌, Bool, true, false, ◌==◌, length, arith}
use Rattle.pubsub.specs.Globs.{after_listed, after_class, after_escaped, after_item}

either : (test : Bool) (one two : List ℕ) (n : ℕ) → length one ≤ n → length two ≤ n → length (elim test as (λ _. List ℕ) [ true ↦ one | false ↦ two ]) ≤ n
either true one two n h k = h
either false one two n h k = k

listed_shorter : (list : List ℕ) → length (after_listed list) ≤ length list
listed_shorter [] = omega arith
listed_shorter (x ∷ []) = omega arith
listed_shorter (x ∷ y ∷ []) =
    let one : length (after_listed (y ∷ [])) ≤ length (x ∷ y ∷ []) = omega (arith, listed_shorter (y ∷ [])) in
    either (x == 92) [] _ _ (omega arith) (either (x == 93) (y ∷ []) (after_listed (y ∷ [])) _ (omega arith) one)
listed_shorter (x ∷ y ∷ z ∷ more) =
    let one : length (after_listed more) ≤ length (x ∷ y ∷ z ∷ more) = omega (arith, listed_shorter more) in
    let two : length (after_listed (z ∷ more)) ≤ length (x ∷ y ∷ z ∷ more) = omega (arith, listed_shorter (z ∷ more)) in
    let three : length (after_listed (y ∷ z ∷ more)) ≤ length (x ∷ y ∷ z ∷ more) = omega (arith, listed_shorter (y ∷ z ∷ more)) in
    either (x == 92) (after_listed (z ∷ more)) _ _ two
    (either (x == 93) (y ∷ z ∷ more) _ _ (omega arith) (either (y == 45) (after_listed more) (after_listed (y ∷ z ∷ more)) _ one three))

class_shorter : (class : List ℕ) → length (after_class class) ≤ length class
class_shorter [] = omega arith
class_shorter (x ∷ xs) =
    let one : length (after_listed xs) ≤ length (x ∷ xs) = omega (arith, listed_shorter xs) in
    either (x == 94) (after_listed xs) (after_listed (x ∷ xs)) _ one (listed_shorter (x ∷ xs))

escaped_shorter : (list : List ℕ) → length (after_escaped list) ≤ length list
escaped_shorter [] = omega arith
escaped_shorter (x ∷ xs) = omega arith

pub item_shorter : (pattern : List ℕ) → length (after_item pattern) ≤ length pattern
item_shorter [] = omega arith
item_shorter (x ∷ xs) =
    let class : length (after_class xs) ≤ length (x ∷ xs) = omega (arith, class_shorter xs) in
    let escaped : length (after_escaped xs) ≤ length (x ∷ xs) = omega (arith, escaped_shorter xs) in
    either (x == 63) xs _ _ (omega arith)
    (either (x == 91) (after_class xs) _ _ class (either (x == 92) (after_escaped xs) xs _ escaped (omega arith)))
