-- Lines of too many words.
use Rattle.std.proofs.Common.{◌≡◌, ℕ, Bool, true, false, ◌==◌, List, [], ◌∷◌, None, refl, sym, ap, ◌∙◌, subst}
use Rattle.ballot_law.specs.Words.{with_first, cut_at}
use Rattle.sentinel_runner.specs.declared.orders.Counts.{Counts}
use Rattle.sentinel_runner.specs.Orders.{order_of_words}

first_part : (b : ℕ) (parts : List (List ℕ)) → (part : List ℕ) × (rest : List (List ℕ)) × (with_first b parts ≡ part ∷ rest)
first_part b [] = (b ∷ [], [], refl)
first_part b (part ∷ parts) = (b ∷ part, parts, refl)

either_part : (test : Bool) (b : ℕ) (parts : List (List ℕ)) →
    (part : List ℕ) × (rest : List (List ℕ)) × (elim test [ true ↦ [] ∷ parts | false ↦ with_first b parts ] ≡ part ∷ rest)
either_part true b parts = ([], parts, refl)
either_part false b parts = first_part b parts

-- a text has one part at least
cut_has_part : (stop : ℕ) (bytes : List ℕ) → (part : List ℕ) × (rest : List (List ℕ)) × (cut_at stop bytes ≡ part ∷ rest)
cut_has_part stop [] = ([], [], refl)
cut_has_part stop (b ∷ bs) = either_part (b == stop) b (cut_at stop bs)

six_words : (counts : Counts) (verb node priority offset before behind : List ℕ) → order_of_words counts (verb ∷ node ∷ priority ∷ offset ∷ before ∷ cut_at 32 behind) ≡ None
six_words counts verb node priority offset before behind =
    let has = cut_has_part 32 behind in
    subst (λ (parts : List (List ℕ)). order_of_words counts (verb ∷ node ∷ priority ∷ offset ∷ before ∷ parts) ≡ None) (sym has.2) refl

-- six words and more are no order
pub too_many_words : (counts : Counts) (verb node rest priority rest_2 offset link_down before behind : List ℕ)
    → cut_at 32 rest ≡ priority ∷ cut_at 32 rest_2 → cut_at 32 rest_2 ≡ offset ∷ cut_at 32 link_down → cut_at 32 link_down ≡ before ∷ cut_at 32 behind
    → None ≡ order_of_words counts (verb ∷ node ∷ cut_at 32 rest)
too_many_words counts verb node rest priority rest_2 offset link_down before behind one two three =
    let words : cut_at 32 rest ≡ priority ∷ offset ∷ before ∷ cut_at 32 behind =
    one ∙ ap (λ (parts : List (List ℕ)). priority ∷ parts) (two ∙ ap (λ (parts : List (List ℕ)). offset ∷ parts) three) in
    sym (ap (λ (parts : List (List ℕ)). order_of_words counts (verb ∷ node ∷ parts)) words ∙ six_words counts verb node priority offset before behind)
