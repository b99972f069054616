-- Texts without CR and LF are lines.
use Rattle.std.proofs.Common.{◌≡◌, ◌≢◌, ◌==◌, ◌||◌, not, ℕ, List, [], ◌∷◌, ◌++◌, Bool, true, false, subst}
use Rattle.std.specs.List.{list_all}
use Rattle.std.proofs.lemmas.Bool.{and_parts}
use Rattle.resp2.specs.Framing.Frame.{IsLine}

abbrev pub is_plain_byte : ℕ → Bool
is_plain_byte b = not ((b == 13) || (b == 10))

pub plain : (b : ℕ) → is_plain_byte b ≡ true → (b ≢ 13) × (b ≢ 10)
plain b h = (
  (λ e. let never : false ≡ true = subst (λ (x : ℕ). is_plain_byte x ≡ true) e h in absurd (cc)),
  (λ e. let never : false ≡ true = subst (λ (x : ℕ). is_plain_byte x ≡ true) e h in absurd (cc)),
)

-- a text of the program, by a test that computes
pub checked : (text : List ℕ) → list_all is_plain_byte text ≡ true → IsLine text
checked [] h = tt
checked (b ∷ text) h =
    let both = and_parts (is_plain_byte b) (list_all is_plain_byte text) h in
    (plain b both.0, checked text both.1)

pub joined : (one two : List ℕ) → IsLine one → IsLine two → IsLine (one ++ two)
joined [] two h k = k
joined (b ∷ one) two h k = (h.0, joined one two h.1 k)
