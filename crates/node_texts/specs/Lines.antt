-- Where a text is cut, and the end of a line.
use Rattle.std.specs.Prelude.{ℕ, true, false, ◌==◌, List, [], ◌∷◌, Option, Some, None}
use Rattle.std.specs.Borrow.{Bor}
use Rattle.ballot_law.specs.Cuts.{cut_at}

-- the parts around the commas that aren't read yet
abbrev pub parts_left : Option (Bor (List ℕ)) → List (List ℕ)
parts_left None = []
parts_left (Some rest) = cut_at 44 rest.now

-- one byte before the rest of a line, unless it is a CR at the line's end
abbrev pub unless_last_return : ℕ → List ℕ → List ℕ
unless_last_return b [] = elim (b == 13) [ true ↦ [] | false ↦ b ∷ [] ]
unless_last_return b (c ∷ cs) = b ∷ c ∷ cs

-- the line without a CR at its end
abbrev pub without_return : List ℕ → List ℕ
without_return [] = []
without_return (b ∷ bs) = elim bs as (λ _. List ℕ) [ [] ↦ unless_last_return b [] | c ∷ cs ↦ b ∷ without_return bs ]
