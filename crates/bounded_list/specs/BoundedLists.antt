-- What room for a limit holds of a list.
use Rattle.std.specs.Prelude.{ℕ, List, take}

-- the first items, up to the limit; the rest is cut
unfoldable pub bounded : {X : Type 0} → ℕ → List X → List X
bounded limit items = take limit items
