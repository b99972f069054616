-- Lists in order, each element once, and tests of repetition.
use Rattle.std.specs.Prelude.{Bool, true, false, ◌||◌, List, [], ◌∷◌}
use Rattle.std.specs.List.{list_any}

-- the list with x at its place, unless an element that ties with it stands there
abbrev pub add : {X : Type 0} → (X → X → Bool) → X → List X → List X
add before x [] = x ∷ []
add before x (y ∷ ys) =
    elim (before y x) [
      | true ↦ y ∷ add before x ys
      | false ↦ elim (before x y) [ true ↦ x ∷ y ∷ ys | false ↦ y ∷ ys ]
    ]

-- the elements in order, each once
abbrev pub in_order : {X : Type 0} → (X → X → Bool) → List X → List X
in_order before [] = []
in_order before (x ∷ xs) = add before x (in_order before xs)

-- some element comes again
abbrev pub repeats : {X : Type 0} → (X → X → Bool) → List X → Bool
repeats same [] = false
repeats same (x ∷ xs) = list_any (same x) xs || repeats same xs
