-- The first of a list that passes a test.
use Rattle.std.proofs.Common.{◌≡◌, ℕ, ◌<◌, ◌≤◌, Bool, true, false, Some, None, List, length, get_or, refl, arith}
use Rattle.std.specs.Prelude.{position}
use Rattle.std.specs.List.{position_or_len}
use Rattle.std.proofs.lemmas.Bool.{lt-ltb, le-ltb}
use Rattle.std.proofs.lemmas.List.Sums.{position_or_len_is}

pub first_passing : {X : Type 0} (p : X → Bool) (xs : List X) (i : ℕ) (d : X) → i < length xs → ((k : ℕ) → k < i → p (get_or xs k d) ≡ false)
    → p (get_or xs i d) ≡ true → position p xs ≡ Some i
first_passing p xs i d inside before passes =
    let at : position_or_len p xs ≡ i = position_or_len_is p xs i d (omega (arith, inside)) before (λ _. passes) in
    rw (at, lt-ltb i (length xs) inside) refl

pub none_passing : {X : Type 0} (p : X → Bool) (xs : List X) (i : ℕ) (d : X) → length xs ≤ i → i ≤ length xs → ((k : ℕ) → k < i → p (get_or xs k d) ≡ false)
    → position p xs ≡ None
none_passing p xs i d long within before =
    let at : position_or_len p xs ≡ i = position_or_len_is p xs i d within before (λ inside. absurd (omega (arith, inside, long))) in
    rw (at, le-ltb i (length xs) long) refl
