-- The names with which a line begins, as a person reads them.
use Rattle.std.specs.Prelude.{ℕ, ◌+◌, Bool, true, false, ◌||◌, ◌&&◌, ◌==◌, nat_le, List, [], ◌∷◌, take, drop}

-- white space, as Redis takes it, or a quote
abbrev pub is_between : ℕ → Bool
is_between b = (b == 32) || ((b == 34) || ((b == 39) || (nat_le 9 b && nat_le b 13)))

-- the text from its first byte on that stands in a name
abbrev pub from_name : List ℕ → List ℕ
from_name [] = []
from_name (b ∷ bs) = elim (is_between b) [ true ↦ from_name bs | false ↦ b ∷ bs ]

-- how many bytes stand before the first that is between names
abbrev pub name_length : List ℕ → ℕ
name_length [] = 0
name_length (b ∷ bs) = elim (is_between b) [ true ↦ 0 | false ↦ name_length bs + 1 ]

abbrev pub first_name : List ℕ → List ℕ
first_name text = take (name_length (from_name text)) (from_name text)

abbrev pub behind_name : List ℕ → List ℕ
behind_name text = drop (name_length (from_name text)) (from_name text)
