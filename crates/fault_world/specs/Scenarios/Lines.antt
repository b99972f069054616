-- Lines for people within a scenario.
use Rattle.std.specs.Prelude.{ℕ, List, [], ◌∷◌, ◌++◌, map, nat_lt, if◌then◌else◌}

-- a byte that isn't a printable one of ASCII shows as a space
abbrev pub shown : ℕ → ℕ
shown byte = if nat_lt byte 32 then 32 else (if nat_lt byte 127 then byte else 32)

-- a comment of a scenario, which is one line whatever its words are
abbrev pub comment : List ℕ → List ℕ
comment words = 35 ∷ 32 ∷ (map shown words ++ 10 ∷ [])
