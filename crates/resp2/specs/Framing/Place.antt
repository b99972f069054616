-- Where the reading of a first value stands that hasn't come whole.
use Rattle.std.specs.Prelude.{◌≡◌, ℕ, zero, suc, ◌-◌, ◌<◌, ◌≤◌, ◌+◌, ◌*◌, List, [], ◌∷◌, ◌++◌, length, take, drop, Result, Ok}
use Rattle.ballot_law.specs.Results.{◌>>=◌}
use Rattle.resp2.specs.declared.framing.fault.Unread.{Unread}
use Rattle.resp2.specs.Framing.Faults.{IsKind}
use Rattle.resp2.specs.Framing.Frame.{Frame, items, IsLine}
use Rattle.resp2.specs.Framing.Reading.{values_at, value_at}

-- what stands behind so many values
unfoldable pub skip : (List ℕ → Result (Frame × List ℕ) Unread) → ℕ → List ℕ → Result (List ℕ) Unread
skip inner zero bytes = Ok bytes
skip inner (suc n) bytes = inner bytes >>= λ first. skip inner n first.1

-- What stands behind all items that are left in the arrays that are open: the numbers say how many in each, the outermost array first, whose items
-- have this depth and come last.
abbrev pub behind_open : ℕ → ℕ → List ℕ → List ℕ → Result (List ℕ) Unread
behind_open more depth [] bytes = Ok bytes
behind_open more depth (n ∷ inner) bytes = behind_open more (depth - 1) inner bytes >>= λ rest. skip (value_at 1024 more depth) n rest

-- Whatever follows the bytes of the front, the first value ends where so many items of the innermost open array and those of the outer ones do. The
-- value itself is the one item of an outermost array.
abbrev pub Passed : List ℕ → List ℕ → ℕ → Type 0
Passed front outer left = (more : ℕ) (rest : List ℕ)
    → (value_at 1024 more 8 (front ++ rest) >>= λ first. Ok first.1) ≡ (skip (value_at 1024 more (8 - length outer)) left rest >>= behind_open more 8 outer)

-- the reading stands behind so many of these bytes
abbrev pub Stands : List ℕ → List ℕ → ℕ → ℕ → Type 0
Stands bytes outer left at = (at ≤ length bytes) × Passed (take at bytes) outer left

-- no line ends in so many of the bytes that stand behind these
abbrev pub Searched : List ℕ → ℕ → ℕ → Type 0
Searched bytes at line = (line ≤ length (drop at bytes)) × IsLine (take line (drop at bytes))

-- a value begins with the byte of a kind, and its line has no end
abbrev pub IsOpenLine : List ℕ → Type 0
IsOpenLine [] = ⊥
IsOpenLine (kind ∷ line) = IsKind kind × IsLine line

-- an array of so many items begins with these bytes
abbrev pub Opens : List ℕ → ℕ → Type 0
Opens head n = (more depth : ℕ) (rest : List ℕ) → value_at 1024 more (suc depth)
    (head ++ rest) ≡ (values_at (value_at 1024 more depth) n rest >>= λ list. Ok (items list.0, list.1))

-- the header of an array of so many items, and what stands behind it
abbrev pub OpensAt : List ℕ → ℕ → List ℕ → Type 0
OpensAt bytes n after = (head : List ℕ) × (bytes ≡ head ++ after) × (0 < length head) × Opens head n

-- what falls with each step: bytes to pass, and arrays to leave
abbrev pub way_left : List ℕ → List ℕ → ℕ → ℕ
way_left bytes outer at = 2 * (length bytes - at) + length outer
