-- Where the last line ends.
use Rattle.std.proofs.Common.{◌≡◌, ◌≢◌, ℕ, zero, suc, ◌<◌, List, [], ◌∷◌, length, slice_index, refl, arith}
use Rattle.std.proofs.lemmas.Bool.{ne_eqb, lt-ltb}
use Rattle.resp2.specs.Long.LongValues.{last_end}

-- no byte of a text is an LF
abbrev pub HasNoEnd : List ℕ → Type 0
HasNoEnd text = (k : ℕ) → k < length text → slice_index text k ≢ 10

no_end_behind : (b : ℕ) (bs : List ℕ) → HasNoEnd (b ∷ bs) → HasNoEnd bs
no_end_behind b bs none k lt = none (suc k) (omega arith)

pub no_last_end : (text : List ℕ) → HasNoEnd text → last_end text ≡ 0
no_last_end [] none = refl
no_last_end (b ∷ bs) none =
    let later = no_last_end bs (no_end_behind b bs none) in
    rw (later, ne_eqb b 10 (none 0 (omega arith))) refl

-- an LF stands here, and none behind it
pub last_end_at : (text : List ℕ) (k : ℕ) → k < length text → slice_index text k ≡ 10 → ((j : ℕ) → k < j → j < length text → slice_index text j ≢ 10) → last_end text ≡ suc k
last_end_at [] k lt here none = absurd (omega arith)
last_end_at (b ∷ bs) zero lt here none =
    let later = no_last_end bs (λ j below. none (suc j) (omega arith) (omega arith)) in
    let first : b ≡ 10 = here in
    rw (later, first) refl
last_end_at (b ∷ bs) (suc k) lt here none =
    let later = last_end_at bs k (omega arith) here (λ j above below. none (suc j) (omega arith) (omega arith)) in
    rw (later, lt-ltb 0 (suc k) (omega arith)) refl
