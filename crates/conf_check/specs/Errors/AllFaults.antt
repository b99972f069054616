-- All faults of a file.
use Rattle.std.specs.Prelude.{◌≡◌, ℕ, Bool, true, false, List, [], ◌∷◌, Ok, Err}
use Rattle.ballot_law.specs.Cuts.{lines}
use Rattle.conf_lines.specs.declared.faults.ConfKind.{ConfKind}
use Rattle.conf_lines.specs.declared.faults.ConfKind.TheVariants.{TooLong, NotUtf8, Roster, NoMemory}
use Rattle.conf_lines.specs.declared.faults.ConfFault.{ConfFault}
use Rattle.sentinel_conf.specs.Reading.{conf_of_bytes}
use Rattle.sentinel_conf.specs.AllFaults.{faults_in}

-- whether a fault is one of the lines'
abbrev pub is_of_lines : ConfKind → Bool
is_of_lines TooLong = false
is_of_lines NotUtf8 = false
is_of_lines (Roster fault) = false
is_of_lines NoMemory = false
is_of_lines _ = true

-- where the file is refused by a fault of its lines, all of these, and else the fault alone: then its lines have none, or aren't read
abbrev pub all_faults : List ℕ → List ConfFault
all_faults bytes = elim (conf_of_bytes bytes) as (λ _. List ConfFault) [
  | Ok conf ↦ []
  | Err fault ↦ elim (is_of_lines fault.kind) [ true ↦ faults_in (lines bytes) | false ↦ fault ∷ [] ]
]

-- a file that is refused has the fault by which it is, and it is the first
abbrev pub FirstIsTold : List ℕ → Type 0
FirstIsTold bytes = (fault : ConfFault) → conf_of_bytes bytes ≡ Err fault → (others : List ConfFault) × (all_faults bytes ≡ fault ∷ others)
