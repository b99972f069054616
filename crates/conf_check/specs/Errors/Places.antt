-- The first line of a kind.
use Rattle.std.specs.Prelude.{ℕ, ◌+◌, Bool, true, false, not, ◌==◌, List, [], ◌∷◌, Option, Some, None}
use Rattle.std.specs.Str.{is_utf8}
use Rattle.conf_lines.specs.declared.lines.StateLine.TheVariants.{Monitor}
use Rattle.conf_lines.specs.declared.lines.Line.{Line}
use Rattle.conf_lines.specs.declared.lines.Line.TheVariants.{State}
use Rattle.conf_lines.specs.Lines.{line_of}
use Rattle.conf_check.specs.declared.errors.first_lines.Sought.{Sought}
use Rattle.conf_check.specs.declared.errors.first_lines.Sought.TheVariants.{ZeroQuorum, Foreign}

-- the number of the first that passes the test; the first of all has this one
abbrev pub first_line : (List ℕ → Bool) → ℕ → List (List ℕ) → Option ℕ
first_line test number [] = None
first_line test number (text ∷ texts) = elim (test text) as (λ _. Option ℕ) [ true ↦ Some number | false ↦ first_line test (number + 1) texts ]

abbrev pub says_zero : Line → Bool
says_zero (State (Monitor name addr quorum)) = quorum == 0
says_zero _ = false

-- the line of a master whose quorum is 0
abbrev pub has_zero_quorum : List ℕ → Bool
has_zero_quorum text = says_zero (line_of text)

-- the bytes of the line aren't UTF-8
abbrev pub is_foreign : List ℕ → Bool
is_foreign text = not (is_utf8 text)

-- the line is one that is looked for
abbrev pub is_sought : Sought → List ℕ → Bool
is_sought ZeroQuorum text = has_zero_quorum text
is_sought Foreign text = is_foreign text
