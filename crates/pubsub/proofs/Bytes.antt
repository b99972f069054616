-- The bytes of some answers.
use Rattle.std.proofs.Common.{◌≡◌, ℕ, List, [], ◌∷◌, ◌++◌, decimal, sym, ap, subst, arith, append-nil, Result}
use Rattle.std.specs.Prelude.{OnOk}
use Rattle.std.proofs.lemmas.Fmt.{decimal_digit}
use Rattle.resp2.specs.Framing.Frame.{Frame, bulk, spelling}
use Rattle.pubsub.specs.Confirming.{total_bytes, confirmation}
use Rattle.pubsub.specs.Telling.{message, pattern_message}
use Rattle.pubsub.specs.Answering.{pong}

-- a text that grew by the bytes of an answer, or was set to them
pub grown_by : {X E : Type 0} (answer : Result X E) (text old bytes wanted : List ℕ) → wanted ≡ bytes → OnOk answer (text ≡ old ++ bytes) → OnOk answer (text ≡ old ++ wanted)
grown_by answer text old bytes wanted same is = subst (λ (t : List ℕ). OnOk answer (text ≡ old ++ t)) (sym same) is

pub set_to : {X E : Type 0} (answer : Result X E) (text bytes wanted : List ℕ) → wanted ≡ bytes → OnOk answer (text ≡ bytes) → OnOk answer (text ≡ wanted)
set_to answer text bytes wanted same is = subst (λ (t : List ℕ). OnOk answer (text ≡ t)) (sym same) is

two : decimal 2 ≡ 50 ∷ []
two = decimal_digit 2 (omega arith)

three : decimal 3 ≡ 51 ∷ []
three = decimal_digit 3 (omega arith)

four : decimal 4 ≡ 52 ∷ []
four = decimal_digit 4 (omega arith)

seven : decimal 7 ≡ 55 ∷ []
seven = decimal_digit 7 (omega arith)

eight : decimal 8 ≡ 56 ∷ []
eight = decimal_digit 8 (omega arith)

abbrev pub three_items : List ℕ
three_items = 42 ∷ 51 ∷ 13 ∷ 10 ∷ []

pub confirmation_bytes : (verb : List ℕ) (name : Frame) (total : ℕ)
    → spelling (confirmation verb name total) ≡ three_items ++ (spelling (bulk verb) ++ (spelling name ++ total_bytes total))
confirmation_bytes verb name total =
    rw (three) (ap (λ (t : List ℕ). three_items ++ (spelling (bulk verb) ++ (spelling name ++ t))) (append-nil (total_bytes total)))

abbrev pub message_front : List ℕ
message_front = 42 ∷ 51 ∷ 13 ∷ 10 ∷ 36 ∷ 55 ∷ 13 ∷ 10 ∷ 109 ∷ 101 ∷ 115 ∷ 115 ∷ 97 ∷ 103 ∷ 101 ∷ 13 ∷ 10 ∷ []

pub message_bytes : (channel text : List ℕ) → spelling (message channel text) ≡ message_front ++ (spelling (bulk channel) ++ spelling (bulk text))
message_bytes channel text =
    rw (three, seven) (ap (λ (t : List ℕ). message_front ++ (spelling (bulk channel) ++ t)) (append-nil (spelling (bulk text))))

abbrev pub pattern_front : List ℕ
pattern_front = 42 ∷ 52 ∷ 13 ∷ 10 ∷ 36 ∷ 56 ∷ 13 ∷ 10 ∷ 112 ∷ 109 ∷ 101 ∷ 115 ∷ 115 ∷ 97 ∷ 103 ∷ 101 ∷ 13 ∷ 10 ∷ []

pub pattern_bytes : (pattern channel text : List ℕ)
    → spelling (pattern_message pattern channel text) ≡ pattern_front ++ (spelling (bulk pattern) ++ (spelling (bulk channel) ++ spelling (bulk text)))
pattern_bytes pattern channel text =
    rw (four, eight) (ap (λ (t : List ℕ). pattern_front ++ (spelling (bulk pattern) ++ (spelling (bulk channel) ++ t))) (append-nil (spelling (bulk text))))

abbrev pub pong_front : List ℕ
pong_front = 42 ∷ 50 ∷ 13 ∷ 10 ∷ 36 ∷ 52 ∷ 13 ∷ 10 ∷ 112 ∷ 111 ∷ 110 ∷ 103 ∷ 13 ∷ 10 ∷ []

pub pong_bytes : (text : List ℕ) → spelling (pong text) ≡ pong_front ++ spelling (bulk text)
pong_bytes text = rw (two, four) (ap (λ (t : List ℕ). pong_front ++ t) (append-nil (spelling (bulk text))))
