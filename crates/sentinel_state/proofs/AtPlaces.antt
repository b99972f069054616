-- A loop that fills a list with what a function has at each place.
use Rattle.std.proofs.Common.{◌≡◌, ℕ, zero, suc, ◌+◌, ◌<◌, List, [], ◌∷◌, ◌++◌, length, set, take, ap, sym, ◌∙◌, arith, add-one}
use Rattle.std.proofs.lemmas.List.{take_more_set}
use Rattle.sentinel_rules.specs.Ticks.{at_places}

at_places_suc : {X : Type 0} (f : ℕ → X) (place n : ℕ) → at_places f place (suc n) ≡ at_places f place n ++ f (place + n) ∷ []
at_places_suc f place zero =
    let same : place ≡ place + 0 = omega arith in
    ap (λ k. f k ∷ []) same
at_places_suc f place (suc n) =
    let same : place + 1 + n ≡ place + suc n = omega arith in
    ap (λ rest. f place ∷ rest) (at_places_suc f (place + 1) n ∙ ap (λ k. at_places f (place + 1) n ++ f k ∷ []) same)

pub filled_more : {X : Type 0} (f : ℕ → X) (xs : List X) (i : ℕ) (x : X) → i < length xs → x ≡ f i → take i xs ≡ at_places f 0 i → take (i + 1) (set xs i x) ≡ at_places f 0 (i + 1)
filled_more f xs i x lt is so_far =
    let first : i ≡ 0 + i = omega arith in
    take_more_set xs i x lt
    ∙ ap (λ done. done ++ x ∷ []) so_far
    ∙ ap (λ y. at_places f 0 i ++ y ∷ []) is
    ∙ ap (λ k. at_places f 0 i ++ f k ∷ []) first
    ∙ sym (at_places_suc f 0 i)
    ∙ ap (λ n. at_places f 0 n) (sym (add-one i))
