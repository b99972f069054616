-- The masters that a file would name, if it were read: a line `sentinel monitor` at fault.
use Rattle.std.specs.Prelude.{ℕ, Bool, true, false, ◌&&◌, List, ◌∷◌, Option, Some, None, bytes_eq, codes}
use Rattle.ballot_law.specs.Words.{lower, name}
use Rattle.tokens.specs.Quotes.{redis_words}
use Rattle.conf_lines.specs.declared.lines.Line.{Line}
use Rattle.conf_lines.specs.declared.lines.Line.TheVariants.{Faulty}
use Rattle.conf_lines.specs.Lines.{line_of}

abbrev pub begins_monitor : (first second : List ℕ) → Bool
begins_monitor first second = bytes_eq (lower first) (codes "sentinel") && bytes_eq (lower second) (codes "monitor")

-- the name behind `sentinel monitor`
abbrev pub name_behind : List (List ℕ) → Option (List ℕ)
name_behind (first ∷ second ∷ third ∷ more) = elim (begins_monitor first second) as (λ _. Option (List ℕ)) [ true ↦ name third | false ↦ None ]
name_behind _ = None

abbrev pub monitored : Option (List (List ℕ)) → Option (List ℕ)
monitored None = None
monitored (Some words) = name_behind words

-- of a line that is at fault by itself
abbrev pub name_if : Line → (text : List ℕ) → Option (List ℕ)
name_if (Faulty kind) text = monitored (redis_words text)
name_if _ text = None

abbrev pub refused_name : List ℕ → Option (List ℕ)
refused_name text = name_if (line_of text) text
