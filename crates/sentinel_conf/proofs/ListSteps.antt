-- Steps of loops that go from element to element.
use Rattle.std.proofs.Common.{◌≡◌, suc, ◌-◌, ◌≤◌, List, [], ◌∷◌, ◌++◌, length, map, take, drop, get_or, refl, ap, sym, ◌∙◌, arith, append_assoc}
use Rattle.std.proofs.lemmas.List.{take_all}

-- one element more has been mapped
pub map_more : {X Y : Type 0} (f : X → Y) (all done : List Y) (rest : List X) (x : X) (new : List Y) → 1 ≤ length rest → x ≡ get_or rest 0 x
    → new ≡ done ++ f x ∷ [] → all ≡ done ++ map f rest → all ≡ new ++ map f (take (length rest - 1) (drop 1 rest))
map_more f all done [] x new l e n h = absurd (omega arith)
map_more f all done (y ∷ ys) x new l e n h =
    h
    ∙ ap (λ t. done ++ f t ∷ map f ys) (sym e)
    ∙ sym (append_assoc done (f x ∷ []) (map f ys))
    ∙ ap (λ t. t ++ map f ys) (sym n)
    ∙ ap (λ t. new ++ map f t) (sym (take_all (length (y ∷ ys) - 1) ys (let k : length (y ∷ ys) ≡ suc (length ys) = refl in omega arith)))
