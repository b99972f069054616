-- The name of a table that is nearest to a word.
use Rattle.std.specs.Prelude.{ℕ, ◌*◌, true, false, ◌&&◌, nat_le, nat_eq, List, [], ◌∷◌, length, fold, Option, Some, None}
use Rattle.strsim.specs.Edits.{levenshtein_row}
use Rattle.ballot_law.specs.Words.{name, some_if}
use Rattle.conf_check.specs.declared.warnings.nearest.Near.{Near}
use Rattle.conf_check.specs.declared.warnings.nearest.TheConstants.{EDITS_MAX}

-- the fewest insertions, deletions and substitutions from one word to the other
abbrev pub edits : List ℕ → List ℕ → ℕ
edits word other = levenshtein_row nat_eq word other (length other)

-- the one with fewer edits, the first of equals
abbrev pub nearer_of : Option Near → Near → Near
nearer_of None next = next
nearer_of (Some best) next = elim (nat_le best.edits next.edits) [ true ↦ best | false ↦ next ]

abbrev pub nearer : List ℕ → Option Near → List ℕ → Option Near
nearer word best text = elim (name text) as (λ _. Option Near) [ None ↦ best | Some n ↦ Some (nearer_of best (record { name = n; edits = edits word text })) ]

-- the name, where it is at most three edits away and at most half of a word of this length
abbrev pub told : ℕ → Option Near → Option (List ℕ)
told len None = None
told len (Some best) = some_if (nat_le best.edits EDITS_MAX && nat_le (best.edits * 2) len) best.name

-- the first of the names with the fewest edits, where it is near
abbrev pub nearest : List (List ℕ) → List ℕ → Option (List ℕ)
nearest names word = told (length word) (fold (nearer word) None names)
