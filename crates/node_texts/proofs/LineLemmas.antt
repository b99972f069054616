-- A CR at the end of a line.
use Rattle.std.proofs.Common.{◌≡◌, ◌≢◌, ℕ, Bool, true, false, eqb, List, [], ◌∷◌, ◌++◌, refl, ap, ◌∙◌, arith}
use Rattle.std.proofs.lemmas.Bool.Decides.{nat_tests}
use Rattle.node_texts.specs.Lines.{unless_last_return, without_return}

-- a CR at the end
last_return_by : (b : ℕ) (t : Bool) → eqb b 13 ≡ t → unless_last_return b [] ≡ elim t as (λ _. List ℕ) [ true ↦ [] | false ↦ b ∷ [] ]
last_return_by b t e = ap (λ t. elim t as (λ _. List ℕ) [ true ↦ [] | false ↦ b ∷ [] ]) e

without_more : (b : ℕ) (bs : List ℕ) (c : ℕ) → without_return (b ∷ (bs ++ c ∷ [])) ≡ b ∷ without_return (bs ++ c ∷ [])
without_more b [] c = refl
without_more b (d ∷ ds) c = refl

pub return_dropped : (front : List ℕ) (b : ℕ) → b ≡ 13 → without_return (front ++ b ∷ []) ≡ front
return_dropped [] b e = last_return_by b true (let t : eqb b 13 ≡ true = grind (arith, nat_tests) in t)
return_dropped (f ∷ front) b e = without_more f front b ∙ ap (λ t. f ∷ t) (return_dropped front b e)

pub other_kept : (front : List ℕ) (b : ℕ) → b ≢ 13 → without_return (front ++ b ∷ []) ≡ front ++ b ∷ []
other_kept [] b e = last_return_by b false (let t : eqb b 13 ≡ false = grind (arith, nat_tests) in t)
other_kept (f ∷ front) b e = without_more f front b ∙ ap (λ t. f ∷ t) (other_kept front b e)
