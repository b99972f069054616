-- Short texts in fields of fixed size: the bytes in front, and zeros after them.
use Rattle.std.specs.Prelude.{◌≡◌, ℕ, ◌-◌, ◌≤◌, List, length, ◌++◌, take, drop}
use Rattle.std.proofs.Math.ListN.{replicate}
use Rattle.std.proofs.Common.{refl, ap, sym, ◌∙◌}
use Rattle.std.proofs.lemmas.List.{length-take-le, take-append-drop}

abbrev pub zeros : ℕ → List ℕ
zeros n = replicate n 0

-- so many bytes of the field are the text
pub record IsPaddedTo (size : ℕ) (bytes : List ℕ) (len : ℕ) : Type 0 where
  pub fits : len ≤ size
  pub whole : length bytes ≡ size
  pub zeros_after : drop len bytes ≡ zeros (size - len)

-- the field can be had back from the text
pub padded-take : (size : ℕ) (bytes : List ℕ) (len : ℕ) → IsPaddedTo size bytes len
    → take len bytes ++ zeros (size - length (take len bytes)) ≡ bytes
padded-take size bytes len p =
    let fits : len ≤ length bytes = rw p.whole p.fits in
    let short : length (take len bytes) ≡ len = length-take-le len bytes fits in
    let whole : take len bytes ++ zeros (size - len) ≡ bytes = ap (λ t. take len bytes ++ t) (sym p.zeros_after) ∙ take-append-drop len bytes in
    rw (short, whole) refl
