-- Numbers without leading zeros, as words and as lines of a stream.
use Rattle.std.proofs.Common.{◌≡◌, ℕ, ◌-◌, ◌^◌, ◌≤◌, ◌<◌, Bool, List, ap, ◌∙◌, subst, Option, Some, decimal}
use Rattle.ballot_law.specs.Orders.{same_bytes}
use Rattle.ballot_law.specs.Words.{some_if, then_some, number_within, canonical_within}
use Rattle.ballot_law.proofs.WordLemmas.{same_bytes-refl, same_bytes-true, number_within-decimal, then_some-is, some_if-is, number_within-is}

-- what a word spells, and its bounds
pub record Canonical (low high : ℕ) (word : List ℕ) (n : ℕ) : Type 0 where
  pub spelled : word ≡ decimal n
  pub above : low ≤ n
  pub below : n ≤ high

pub canonical_is : (low high : ℕ) (word : List ℕ) (n : ℕ) → canonical_within low high word ≡ Some n → Canonical low high word n
canonical_is low high word n e =
    let found = then_some-is (number_within low high word) (λ m. some_if (same_bytes word (decimal m)) m) n e in
    let test = some_if-is (same_bytes word (decimal found.0)) found.0 n found.2 in
    let bounds = number_within-is low high word found.0 found.1 in
    let made : Canonical low high word found.0 = record { spelled = same_bytes-true word (decimal found.0) test.0; above = bounds.0; below = bounds.1 } in
    subst (λ (k : ℕ). Canonical low high word k) test.1 made

pub canonical_decimal : (low high n : ℕ) → n < 2 ^ 64 → low ≤ n → n ≤ high → canonical_within low high (decimal n) ≡ Some n
canonical_decimal low high n small above below =
    ap (λ (o : Option ℕ). then_some o (λ m. some_if (same_bytes (decimal n) (decimal m)) m)) (number_within-decimal low high n small above below)
    ∙ ap (λ (b : Bool). some_if b n) (same_bytes-refl (decimal n))
