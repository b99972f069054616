-- What is told of a file, line by line, though it is no fault.
use Rattle.std.specs.Prelude.{ℕ, ◌+◌, Bool, true, false, ◌==◌, nat_lt, List, [], ◌∷◌, ◌++◌, Option, Some, None, bytes_eq, codes}
use Rattle.std.specs.List.{list_any}
use Rattle.ballot_law.specs.Orders.{same_bytes}
use Rattle.ballot_law.specs.Words.{lower, some_if}
use Rattle.conf_lines.specs.declared.lines.StateLine.TheVariants.{Monitor}
use Rattle.conf_lines.specs.declared.lines.Setting.{Setting}
use Rattle.conf_lines.specs.declared.lines.Setting.TheVariants.{DownAfter}
use Rattle.conf_lines.specs.declared.lines.Line.{Line}
use Rattle.conf_lines.specs.declared.lines.Line.TheVariants as line
use Rattle.conf_lines.specs.Lines.{line_of}
use Rattle.conf_check.specs.declared.warnings.line_advices.Advice.{Advice}
use Rattle.conf_check.specs.declared.warnings.line_advices.AdviceKind.{AdviceKind}
use Rattle.conf_check.specs.declared.warnings.line_advices.AdviceKind.TheVariants.{UnknownDirective, NoEffect, QuorumOutOfReach, ShortDownAfter}
use Rattle.conf_check.specs.declared.warnings.line_advices.TheConstants.{DOWN_AFTER_MIN}
use Rattle.conf_check.specs.Warnings.SpelledNames.{first_name, behind_name}
use Rattle.conf_check.specs.Warnings.Nearest.{nearest}

-- a directive that stands in a file without an effect, where these are known
abbrev pub among : List (List ℕ) → List ℕ → AdviceKind
among names word = elim (list_any (same_bytes word) names) [ true ↦ NoEffect | false ↦ UnknownDirective ]

-- nothing is told of a comment or an empty line
abbrev pub is_silent : List ℕ → Bool
is_silent [] = true
is_silent (b ∷ bs) = b == 35

abbrev pub kept_advice : List (List ℕ) → List (List ℕ) → List ℕ → Option AdviceKind
kept_advice first sentinel text =
    elim (is_silent (first_name text)) as (λ _. Option AdviceKind) [
      | true ↦ None
      | false ↦ elim (bytes_eq (lower (first_name text)) (codes "sentinel")) as (λ _. Option AdviceKind) [
        | true ↦ Some (among sentinel (lower (first_name (behind_name text))))
        | false ↦ Some (among first (lower (first_name text)))
      ]
    ]

-- the nearest of those that may stand at its place
abbrev pub nearest_directive : List (List ℕ) → List (List ℕ) → List ℕ → Option (List ℕ)
nearest_directive first sentinel text =
    elim (bytes_eq (lower (first_name text)) (codes "sentinel")) as (λ _. Option (List ℕ)) [
      | true ↦ nearest sentinel (lower (first_name (behind_name text)))
      | false ↦ nearest first (lower (first_name text))
    ]

-- what is told of a line that is this, in a group of so many Sentinels
abbrev pub advice_of : List (List ℕ) → List (List ℕ) → ℕ → List ℕ → Line → Option AdviceKind
advice_of first sentinel sentinels text line.Kept = kept_advice first sentinel text
advice_of first sentinel sentinels text (line.State (Monitor name addr quorum)) = some_if (nat_lt sentinels quorum) (QuorumOutOfReach quorum)
advice_of first sentinel sentinels text (line.Setting (DownAfter name ms)) = some_if (nat_lt ms DOWN_AFTER_MIN) (ShortDownAfter ms)
advice_of first sentinel sentinels text _ = None

abbrev pub line_advice : List (List ℕ) → List (List ℕ) → ℕ → List ℕ → Option AdviceKind
line_advice first sentinel sentinels text = advice_of first sentinel sentinels text (line_of text)

-- at the line with this number
abbrev pub at_line : ℕ → Option AdviceKind → List Advice
at_line number None = []
at_line number (Some kind) = record { line = number; kind = kind } ∷ []

-- of these lines, the first of which has this number
abbrev pub advices_from : List (List ℕ) → List (List ℕ) → ℕ → ℕ → List (List ℕ) → List Advice
advices_from first sentinel sentinels number [] = []
advices_from first sentinel sentinels number (text ∷ texts) =
    at_line number (line_advice first sentinel sentinels text) ++ advices_from first sentinel sentinels (number + 1) texts

abbrev pub advices : List (List ℕ) → List (List ℕ) → ℕ → List (List ℕ) → List Advice
advices first sentinel sentinels texts = advices_from first sentinel sentinels 1 texts
