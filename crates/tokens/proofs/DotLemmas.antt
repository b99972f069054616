-- An address has four parts and no more.
use Rattle.std.proofs.Common.{◌≡◌, ℕ, true, List, [], ◌∷◌, Option, Some, None, ap, ◌∙◌}
use Rattle.std.specs.Option.{MatchOption, is_some}
use Rattle.ballot_law.specs.Words.{parts, ip_of_parts}
use Rattle.ballot_law.proofs.CutLemmas.{IsSomeParts, some_parts}

more_by : (a b c x : List ℕ) (ps : List (List ℕ)) → IsSomeParts ps → ip_of_parts (a ∷ b ∷ c ∷ x ∷ ps) ≡ None
more_by a b c x ps s = ap (λ t. ip_of_parts (a ∷ b ∷ c ∷ x ∷ t)) s.2

-- more than four parts are no address
pub more_parts : {X : Type 0} → (a b c d : List ℕ) (r : Option X) (f g : X → List ℕ) → MatchOption r (parts d ≡ d ∷ []) (λ p. parts d ≡ f p ∷ parts (g p)) → is_some r ≡ true →
    ip_of_parts (a ∷ b ∷ c ∷ parts d) ≡ None
more_parts a b c d None f g m s = absurd cc
more_parts a b c d (Some p) f g m s = ap (λ t. ip_of_parts (a ∷ b ∷ c ∷ t)) m ∙ more_by a b c (f p) (parts (g p)) (some_parts 46 (g p))
