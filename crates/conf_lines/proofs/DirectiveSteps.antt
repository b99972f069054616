-- Steps along a table of directives.
use Rattle.std.proofs.Common.{◌≡◌, ℕ, true, false, List, ◌∷◌, ap}
use Rattle.std.specs.Prelude.{bytes_eq}
use Rattle.ballot_law.specs.Words.{lower}
use Rattle.conf_lines.specs.declared.lines.Line.{Line}
use Rattle.conf_lines.specs.Lines.{first_named}

module _ (word name : List ℕ) (line : List (List ℕ) → Line) (rest : List (List ℕ × (List (List ℕ) → Line))) (args : List (List ℕ)) where
  pub named : bytes_eq (lower word) name ≡ true → first_named word ((name, line) ∷ rest) args ≡ line args
  named e = ap (λ t. elim t as (λ _. Line) [ true ↦ line args | false ↦ first_named word rest args ]) e

  pub not_named : bytes_eq (lower word) name ≡ false → first_named word ((name, line) ∷ rest) args ≡ first_named word rest args
  not_named e = ap (λ t. elim t as (λ _. Line) [ true ↦ line args | false ↦ first_named word rest args ]) e
