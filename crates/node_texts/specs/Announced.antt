-- Whether an answer to INFO says that its replica may be told to clients.
use Rattle.std.specs.Prelude.{Bool, true, not, Option, Some, None, List, [], ◌∷◌, ℕ, map, bytes_eq, codes}
use Rattle.ballot_law.specs.Cuts.{lines}
use Rattle.node_texts.specs.Infos.{after_label}
use Rattle.node_texts.specs.Lines.{without_return}

-- what stands behind the label tells it; a line without the label tells nothing
abbrev pub announced_by : (value : Option (List ℕ)) → (before : Bool) → Bool
announced_by None before = before
announced_by (Some value) before = not (bytes_eq value (codes "0"))

abbrev pub announced_after : Bool → List (List ℕ) → Bool
announced_after before [] = before
announced_after before (line ∷ lines) = announced_after (announced_by (after_label (codes "replica_announced:") line) before) lines

-- it may unless the last line about it says 0
abbrev pub is_announced : List ℕ → Bool
is_announced bytes = announced_after true (map without_return (lines bytes))
