-- Which texts a pattern of PSUBSCRIBE matches, byte by byte, as Redis has it.
use Rattle.std.specs.Prelude.{◌≡◌, ◌<◌, ◌≤◌, ℕ, ◌+◌, ◌%◌, Bool, true, false, not, ◌||◌, ◌&&◌, ◌==◌, nat_le, List, [], ◌∷◌, length}

-- ---- a class: what is listed in it is after its `[`, or after `[^`, up to the first `]` that isn't escaped or the end of a span, or up to the end of the pattern

-- where a byte has its place within a span: those above 127 come before the others, since Redis takes bytes as numbers with a sign
abbrev pub place : ℕ → ℕ
place b = (b + 128) % 256

-- the byte is one of those from this one to the other, in whichever order they stand
abbrev pub is_within : (one other b : ℕ) → Bool
is_within one other b =
    (nat_le (place one) (place b) && nat_le (place b) (place other)) || (nat_le (place other) (place b) && nat_le (place b) (place one))

-- what is listed first begins with this byte, and has the byte `b`: an escaped byte, a span, or a byte
abbrev pub first_has : (first : ℕ) → (more : List ℕ) → (b : ℕ) → Bool
first_has x [] b = x == b
first_has x (y ∷ []) b = elim (x == 92) [ true ↦ y == b | false ↦ x == b ]
first_has x (y ∷ z ∷ more) b = elim (x == 92) [ true ↦ y == b | false ↦ elim (y == 45) [ true ↦ is_within x z b | false ↦ x == b ] ]

-- what is listed after it
abbrev pub after_first : (first : ℕ) → (more : List ℕ) → List ℕ
after_first x [] = []
after_first x (y ∷ []) = elim (x == 92) [ true ↦ [] | false ↦ y ∷ [] ]
after_first x (y ∷ z ∷ more) = elim (x == 92) [ true ↦ z ∷ more | false ↦ elim (y == 45) [ true ↦ more | false ↦ y ∷ z ∷ more ] ]

-- One of the bytes or spans that are listed has the byte. A backslash has the byte after it stand for itself, unless it is the last of the pattern; a span is a
-- byte, a dash and any byte
abbrev pub is_listed : List ℕ → ℕ → Bool
is_listed [] b = false
is_listed (x ∷ []) b = elim (x == 93) [ true ↦ false | false ↦ x == b ]
is_listed (x ∷ y ∷ []) b =
    elim (x == 92) [
      | true ↦ y == b
      | false ↦ elim (x == 93) [ true ↦ false | false ↦ (x == b) || is_listed (y ∷ []) b ]
    ]
is_listed (x ∷ y ∷ z ∷ more) b =
    elim (x == 92) [
      | true ↦ (y == b) || is_listed (z ∷ more) b
      | false ↦ elim (x == 93) [
        | true ↦ false
        | false ↦ elim (y == 45) [ true ↦ is_within x z b || is_listed more b | false ↦ (x == b) || is_listed (y ∷ z ∷ more) b ]
      ]
    ]

-- what is after the class
abbrev pub after_listed : List ℕ → List ℕ
after_listed [] = []
after_listed (x ∷ []) = []
after_listed (x ∷ y ∷ []) =
    elim (x == 92) [
      | true ↦ []
      | false ↦ elim (x == 93) [ true ↦ y ∷ [] | false ↦ after_listed (y ∷ []) ]
    ]
after_listed (x ∷ y ∷ z ∷ more) =
    elim (x == 92) [
      | true ↦ after_listed (z ∷ more)
      | false ↦ elim (x == 93) [
        | true ↦ y ∷ z ∷ more
        | false ↦ elim (y == 45) [ true ↦ after_listed more | false ↦ after_listed (y ∷ z ∷ more) ]
      ]
    ]

-- the class after this `[` has the byte: it is listed, or isn't after a `^`
abbrev pub class_has : List ℕ → ℕ → Bool
class_has [] b = false
class_has (x ∷ xs) b = elim (x == 94) [ true ↦ not (is_listed xs b) | false ↦ is_listed (x ∷ xs) b ]

abbrev pub after_class : List ℕ → List ℕ
after_class [] = []
after_class (x ∷ xs) = elim (x == 94) [ true ↦ after_listed xs | false ↦ after_listed (x ∷ xs) ]

-- ---- the first item of a pattern: `?`, a class, an escaped byte, or a byte

-- a backslash at the end stands for itself
abbrev pub escapes : List ℕ → ℕ → Bool
escapes [] b = 92 == b
escapes (x ∷ xs) b = x == b

abbrev pub after_escaped : List ℕ → List ℕ
after_escaped [] = []
after_escaped (x ∷ xs) = xs

-- the first item takes the byte
abbrev pub takes : List ℕ → ℕ → Bool
takes [] b = false
takes (x ∷ xs) b =
    elim (x == 63) [
      | true ↦ true
      | false ↦ elim (x == 91) [
        | true ↦ class_has xs b
        | false ↦ elim (x == 92) [ true ↦ escapes xs b | false ↦ x == b ]
      ]
    ]

-- the pattern after its first item
abbrev pub after_item : List ℕ → List ℕ
after_item [] = []
after_item (x ∷ xs) =
    elim (x == 63) [
      | true ↦ xs
      | false ↦ elim (x == 91) [
        | true ↦ after_class xs
        | false ↦ elim (x == 92) [ true ↦ after_escaped xs | false ↦ xs ]
      ]
    ]

-- ---- patterns

-- a `*` is first
abbrev pub is_open : List ℕ → Bool
is_open [] = false
is_open (x ∷ xs) = x == 42

-- the pattern after the `*` that it begins with
abbrev pub after_stars : List ℕ → List ℕ
after_stars [] = []
after_stars (x ∷ xs) = elim (x == 42) [ true ↦ after_stars xs | false ↦ x ∷ xs ]

abbrev pub are_stars : List ℕ → Bool
are_stars [] = true
are_stars (x ∷ xs) = (x == 42) && are_stars xs

-- The pattern fits the bytes: the first item after its `*` takes the first byte, and the rest fits the others; or a `*` leaves the first byte out
abbrev pub fits : (pattern : List ℕ) → List ℕ → Bool
fits pattern [] = are_stars pattern
fits pattern (b ∷ bs) = (takes (after_stars pattern) b && fits (after_item (after_stars pattern)) bs) || (is_open pattern && fits pattern bs)

abbrev pub is_empty : List ℕ → Bool
is_empty [] = true
is_empty (x ∷ xs) = false

-- the pattern matches the text; one of no bytes is matched by the empty pattern alone, and not by `*`
abbrev pub matches : (pattern text : List ℕ) → Bool
matches pattern [] = is_empty pattern
matches pattern (b ∷ bs) = fits pattern (b ∷ bs)

-- ---- on the way

-- After a first item that took its byte the pattern fits what is left as it fitted before; and where it fits at a later place, what is left does too
pub record IsStep (pattern text after later : List ℕ) : Type 0 where
  pub here : fits pattern text ≡ fits after later
  pub found : fits (42 ∷ pattern) text ≡ true → fits (42 ∷ after) later ≡ true
  pub shorter : length after ≤ length pattern
  pub fewer : length later < length text
