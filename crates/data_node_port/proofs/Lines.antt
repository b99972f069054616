-- The words of a line, a byte at a time.
use Rattle.std.proofs.Common.{◌≡◌, ℕ, Bool, true, false, List, ◌∷◌, sym, ap}
use Rattle.std.specs.Prelude.{◌==◌}
use Rattle.data_node_port.specs.Findings.{array_at}
use Rattle.data_node_port.specs.Readings.{inline_at, turn_by, turn_at}

-- what the first byte tells
pub array_front : (first : ℕ) (bytes : List ℕ) → (first == 42) ≡ true → array_at (first ∷ bytes) ≡ turn_at (first ∷ bytes)
array_front first bytes is = sym (ap (λ (t : Bool). turn_by t (first ∷ bytes)) is)

pub line_front : (first : ℕ) (bytes : List ℕ) → (first == 42) ≡ false → inline_at (first ∷ bytes) ≡ turn_at (first ∷ bytes)
line_front first bytes is = sym (ap (λ (t : Bool). turn_by t (first ∷ bytes)) is)
