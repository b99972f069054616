-- The text of a file that redis-sentinel reads.
use Rattle.std.specs.Prelude.{◌≡◌, ℕ, Bool, true, false, ◌==◌, List, [], ◌∷◌}
use Rattle.std.specs.List.{flat_map}
use Rattle.ballot_law.specs.Cuts.{with_first, lines}
use Rattle.conf_lines.specs.declared.lines.StateLine.TheVariants.{LeaderId}
use Rattle.conf_lines.specs.declared.lines.Line.{Line}
use Rattle.conf_lines.specs.declared.lines.Line.TheVariants.{State}
use Rattle.conf_lines.specs.Lines.{line_of}

-- the lines, each with its LF, which the last may lack
abbrev pub whole_lines : List ℕ → List (List ℕ)
whole_lines [] = []
whole_lines (b ∷ bs) = elim (b == 10) [ true ↦ (10 ∷ []) ∷ whole_lines bs | false ↦ with_first b (whole_lines bs) ]

abbrev pub names_leader : Line → Bool
names_leader (State (LeaderId name id)) = true
names_leader _ = false

-- a line `sentinel leader-id`, which this project alone knows
abbrev pub is_leader_line : List (List ℕ) → Bool
is_leader_line [] = false
is_leader_line (text ∷ texts) = names_leader (line_of text)

abbrev pub for_redis : List ℕ → List ℕ
for_redis whole = elim (is_leader_line (lines whole)) [ true ↦ [] | false ↦ whole ]

-- the text without these lines, and else byte for byte
abbrev pub redis_text : List ℕ → List ℕ
redis_text bytes = flat_map for_redis (whole_lines bytes)

-- the lines with their LF are the text
abbrev pub LinesAreText : Type 0
LinesAreText = (bytes : List ℕ) → flat_map (λ whole. whole) (whole_lines bytes) ≡ bytes
