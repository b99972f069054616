-- What is lost with a line that has no effect.
use Rattle.std.specs.Prelude.{ℕ, Bool, true, false, List, [], ◌∷◌, ◌++◌, Option, Some, None, bytes_eq, codes}
use Rattle.ballot_law.specs.Words.{lower}
use Rattle.conf_check.specs.Warnings.SpelledNames.{first_name, behind_name}

-- a line whose first name is `sentinel`
abbrev pub is_sentinel_line : List ℕ → Bool
is_sentinel_line text = bytes_eq (lower (first_name text)) (codes "sentinel")

-- the directive of a line, as it stands there
abbrev pub directive_of : List ℕ → List ℕ
directive_of text =
    elim (is_sentinel_line text) as (λ _. List ℕ) [ true ↦ codes "sentinel " ++ first_name (behind_name text) | false ↦ first_name text ]

-- what stands in a table beside this name
abbrev pub beside : List ℕ → List (List ℕ × List ℕ) → Option (List ℕ)
beside name [] = None
beside name (row ∷ rows) = elim (bytes_eq (lower name) row.0) as (λ _. Option (List ℕ)) [ true ↦ Some row.1 | false ↦ beside name rows ]

-- directives behind `sentinel`, and what isn't done for them
abbrev pub sentinel_losses : List (List ℕ × List ℕ)
sentinel_losses =
    (codes "notification-script", codes "no script is run here: its companion `sentinel_scripts` calls it, see examples/service")
    ∷ (codes "client-reconfig-script", codes "no script is run here: its companion `sentinel_scripts` calls it, see examples/service")
    ∷ []

abbrev pub first_losses : List (List ℕ × List ℕ)
first_losses =
    (codes "rename-command", codes "the commands of the port keep their names here")
    ∷ (codes "unixsocket", codes "no socket but that of the port is opened here")
    ∷ []

abbrev pub loss_of : List ℕ → Option (List ℕ)
loss_of text =
    elim (is_sentinel_line text) as (λ _. Option (List ℕ)) [
      | true ↦ beside (first_name (behind_name text)) sentinel_losses
      | false ↦ beside (first_name text) first_losses
    ]
