-- Adding bytes at the end of a sink.
use Rattle.std.specs.Prelude.{◌≡◌, ℕ, List, ◌++◌, length, take, Result, Ok, Err}

-- a text begins another one
abbrev pub Begins : List ℕ → List ℕ → Type 0
Begins front text = take (length front) text ≡ front

-- these bytes were added; or there was no room for all of them: the first ones were added, and the sink is full
abbrev pub Adds : {X E : Type 0} → Result X E → List ℕ → List ℕ → List ℕ → Type 0 → Type 0
Adds (Ok x) before after bytes full = after ≡ before ++ bytes
Adds (Err e) before after bytes full = Begins before after × Begins after (before ++ bytes) × full
