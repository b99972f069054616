-- A text cut at each byte of one value.
use Rattle.std.specs.Prelude.{ℕ, ◌≡◌, ◌≤◌, ◌<◌, Bool, true, false, ◌==◌, List, [], ◌∷◌, length, slice_index}

-- one byte before the first part
abbrev pub with_first : ℕ → List (List ℕ) → List (List ℕ)
with_first b [] = (b ∷ []) ∷ []
with_first b (part ∷ parts) = (b ∷ part) ∷ parts

-- the parts around this byte: one more than it stands there
abbrev pub cut_at : ℕ → List ℕ → List (List ℕ)
cut_at stop [] = [] ∷ []
cut_at stop (b ∷ bs) = elim (b == stop) [ true ↦ [] ∷ cut_at stop bs | false ↦ with_first b (cut_at stop bs) ]

-- the lines, each ended by LF, which the last may lack
abbrev pub lines : List ℕ → List (List ℕ)
lines [] = []
lines (b ∷ bs) = elim (b == 10) [ true ↦ [] ∷ lines bs | false ↦ with_first b (lines bs) ]

-- the first place whose byte passes the test, or the length where none does
pub record IsEnd (test : ℕ → Bool) (text : List ℕ) (end : ℕ) : Type 0 where
  pub within : end ≤ length text
  pub before : (k : ℕ) → k < end → test (slice_index text k) ≡ false
  pub here : end < length text → test (slice_index text end) ≡ true
