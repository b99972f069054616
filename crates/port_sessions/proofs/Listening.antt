-- The bytes of what a client is sent that listens.
use Rattle.std.proofs.Common.{◌≡◌, ◌∙◌, ℕ, List, [], ◌∷◌, ◌++◌, decimal, refl, sym, ap, arith, subst, append-nil, Result, Ok, Err}
use Rattle.std.proofs.lemmas.Fmt.{decimal_digit}
use Rattle.std.specs.Prelude.{OnOk}
use Rattle.resp2.specs.Framing.Frame.{bulk, spelling}
use Rattle.resp2.specs.Framing.Writing.{Adds}
use Rattle.port_answers.proofs.Subscribing.{fourteen}
use Rattle.port_sessions.specs.Listening.{pong_message, message_frame}

pub pong_bytes : spelling pong_message ≡ 42 ∷ 50 ∷ 13 ∷ 10 ∷ 36 ∷ 52 ∷ 13 ∷ 10 ∷ 112 ∷ 111 ∷ 110 ∷ 103 ∷ 13 ∷ 10 ∷ 36 ∷ 48 ∷ 13 ∷ 10 ∷ 13 ∷ 10 ∷ []
pong_bytes =
    let two : decimal 2 ≡ 50 ∷ [] = decimal_digit 2 (omega arith) in
    let four : decimal 4 ≡ 52 ∷ [] = decimal_digit 4 (omega arith) in
    let none : decimal 0 ≡ 48 ∷ [] = decimal_digit 0 (omega arith) in
    rw (two, four, none) refl

-- how each note begins
abbrev pub note_front : List ℕ
note_front =
    42 ∷ 51 ∷ 13 ∷ 10 ∷ 36 ∷ 55 ∷ 13 ∷ 10 ∷ 109 ∷ 101 ∷ 115 ∷ 115 ∷ 97 ∷ 103 ∷ 101 ∷ 13 ∷ 10 ∷ 36 ∷ 49 ∷ 52 ∷ 13 ∷ 10 ∷ 43 ∷ 115 ∷ 119 ∷ 105 ∷ 116 ∷ 99 ∷ 104 ∷ 45 ∷ 109 ∷ 97 ∷
    115 ∷ 116 ∷ 101 ∷ 114 ∷ 13 ∷ 10 ∷ []

pub note_bytes : (text : List ℕ) → note_front ++ spelling (bulk text) ≡ spelling (message_frame text)
note_bytes text =
    let three : decimal 3 ≡ 51 ∷ [] = decimal_digit 3 (omega arith) in
    let seven : decimal 7 ≡ 55 ∷ [] = decimal_digit 7 (omega arith) in
    rw (three, seven, fourteen) (ap (λ (t : List ℕ). note_front ++ t) (sym (append-nil (spelling (bulk text)))))

-- a text that was set to the bytes of an answer
pub set_to : {X E : Type 0} (answer : Result X E) (text bytes wanted : List ℕ) → wanted ≡ bytes → OnOk answer (text ≡ bytes) → OnOk answer (text ≡ wanted)
set_to answer text bytes wanted same is = subst (λ (t : List ℕ). OnOk answer (text ≡ t)) (sym same) is

-- the bulk string of a text behind the front
pub note_written : {X E : Type 0} (answer : Result X E) (before after told text : List ℕ) (full : Type 0) → before ≡ note_front → told ≡ text
    → Adds answer before after (spelling (bulk told)) full → OnOk answer (after ≡ spelling (message_frame text))
note_written (Ok x) before after told text full front is added = added ∙ (λ i. front i ++ spelling (bulk (is i))) ∙ note_bytes text
note_written (Err e) before after told text full front is added = tt
