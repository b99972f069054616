-- The bytes of the answer to SUBSCRIBE.
use Rattle.std.proofs.Common.{◌≡◌, ◌∙◌, ℕ, [], ◌∷◌, decimal, refl, arith}
use Rattle.std.proofs.lemmas.Fmt.{decimal_digit, decimal_step}
use Rattle.resp2.specs.Framing.Frame.{spelling}
use Rattle.port_answers.specs.Answers.{subscribed}

pub fourteen : decimal 14 ≡ 49 ∷ 52 ∷ []
fourteen = decimal_step 14 (omega arith) (omega arith) ∙ (let one : decimal 1 ≡ 49 ∷ [] = decimal_digit 1 (omega arith) in rw (one) refl)

pub subscribed_bytes : spelling subscribed
    ≡ 42 ∷ 51 ∷ 13 ∷ 10 ∷ 36 ∷ 57 ∷ 13 ∷ 10 ∷ 115 ∷ 117 ∷ 98 ∷ 115 ∷ 99 ∷ 114 ∷ 105 ∷ 98 ∷ 101 ∷ 13 ∷ 10 ∷ 36 ∷ 49 ∷ 52 ∷ 13 ∷ 10 ∷ 43 ∷ 115 ∷ 119 ∷ 105 ∷ 116 ∷ 99 ∷ 104 ∷ 45 ∷
    109 ∷ 97 ∷ 115 ∷ 116 ∷ 101 ∷ 114 ∷ 13 ∷ 10 ∷ 58 ∷ 49 ∷ 13 ∷ 10 ∷ []
subscribed_bytes =
    let three : decimal 3 ≡ 51 ∷ [] = decimal_digit 3 (omega arith) in
    let nine : decimal 9 ≡ 57 ∷ [] = decimal_digit 9 (omega arith) in
    let one : decimal 1 ≡ 49 ∷ [] = decimal_digit 1 (omega arith) in
    rw (three, nine, fourteen, one) refl
