-- The bytes of some answers.
use Rattle.std.proofs.Common.{◌≡◌, ◌∙◌, ◌<◌, ◌-◌, ℕ, zero, suc, List, [], ◌∷◌, ◌++◌, length, map, decimal, refl, sym, ap, arith, subst, append-nil, Result, Option, None, Some, Bool, true, false, true≢false}
use Rattle.std.proofs.lemmas.Fmt.{decimal_digit, decimal_step}
use Rattle.std.specs.Prelude.{OnOk}
use Rattle.ballot_law.specs.Rosters.{MasterPlan}
use Rattle.resp2.specs.Framing.Frame.{Frame, bulk, items, no_frames, count, frames_of, spelling, spellings, line_end}
use Rattle.client_commands.specs.Refusals.{no_auth_yet}
use Rattle.client_commands.specs.declared.protocols.Protocol.{Protocol}
use Rattle.client_commands.specs.declared.protocols.Protocol.TheVariants.{Two, Three}
use Rattle.client_commands.specs.Courtesies.{ClientInfo, names_of, or_else, is_some, lacks_password, refusal_text, greeting_of, hello_map, role, pong, first, uncached}

-- a text that was set to the bytes of an answer
pub set_to : {X E : Type 0} (answer : Result X E) (text bytes wanted : List ℕ) → wanted ≡ bytes → OnOk answer (text ≡ bytes) → OnOk answer (text ≡ wanted)
set_to answer text bytes wanted same is = subst (λ (t : List ℕ). OnOk answer (text ≡ t)) (sym same) is

none : decimal 0 ≡ 48 ∷ []
none = decimal_digit 0 (omega arith)

two : decimal 2 ≡ 50 ∷ []
two = decimal_digit 2 (omega arith)

three : decimal 3 ≡ 51 ∷ []
three = decimal_digit 3 (omega arith)

four : decimal 4 ≡ 52 ∷ []
four = decimal_digit 4 (omega arith)

five : decimal 5 ≡ 53 ∷ []
five = decimal_digit 5 (omega arith)

six : decimal 6 ≡ 54 ∷ []
six = decimal_digit 6 (omega arith)

seven : decimal 7 ≡ 55 ∷ []
seven = decimal_digit 7 (omega arith)

eight : decimal 8 ≡ 56 ∷ []
eight = decimal_digit 8 (omega arith)

twelve : decimal 12 ≡ 49 ∷ 50 ∷ []
twelve = decimal_step 12 (omega arith) (omega arith) ∙ (let one : decimal 1 ≡ 49 ∷ [] = decimal_digit 1 (omega arith) in rw (one) refl)

pub none_bytes : spelling (items no_frames) ≡ 42 ∷ 48 ∷ 13 ∷ 10 ∷ []
none_bytes = rw (none) refl

-- what HELLO says before the number of the connection, and after it
abbrev pub digit : Protocol → ℕ
digit Two = 50
digit Three = 51

abbrev pub hello_front : Protocol → List ℕ
hello_front protocol =
    42 ∷ 49 ∷ 50 ∷ 13 ∷ 10 ∷ 36 ∷ 54 ∷ 13 ∷ 10 ∷ 115 ∷ 101 ∷ 114 ∷ 118 ∷ 101 ∷ 114 ∷ 13 ∷ 10 ∷ 36 ∷ 53 ∷ 13 ∷ 10 ∷ 114 ∷ 101 ∷ 100 ∷ 105 ∷ 115 ∷ 13 ∷ 10 ∷ 36 ∷ 55 ∷
    13 ∷ 10 ∷ 118 ∷ 101 ∷ 114 ∷ 115 ∷ 105 ∷ 111 ∷
    110 ∷ 13 ∷ 10 ∷ 36 ∷ 53 ∷ 13 ∷ 10 ∷ 55 ∷ 46 ∷ 50 ∷ 46 ∷ 48 ∷ 13 ∷ 10 ∷ 36 ∷ 53 ∷ 13 ∷ 10 ∷ 112 ∷ 114 ∷ 111 ∷ 116 ∷ 111 ∷ 13 ∷ 10 ∷ 58 ∷ digit protocol
    ∷ 13 ∷ 10 ∷ 36 ∷ 50 ∷ 13 ∷ 10 ∷ 105 ∷ 100 ∷ 13 ∷ 10 ∷ 58 ∷ []

abbrev pub hello_back : List ℕ
hello_back =
    36 ∷ 52 ∷ 13 ∷ 10 ∷ 109 ∷ 111 ∷ 100 ∷ 101 ∷ 13 ∷ 10 ∷ 36 ∷ 56 ∷ 13 ∷ 10 ∷ 115 ∷ 101 ∷ 110 ∷ 116 ∷ 105 ∷ 110 ∷ 101 ∷ 108 ∷ 13 ∷ 10 ∷ 36 ∷ 55 ∷ 13 ∷ 10 ∷ 109 ∷ 111 ∷
    100 ∷ 117 ∷ 108 ∷ 101 ∷ 115 ∷ 13 ∷ 10 ∷ 42 ∷
    48 ∷ 13 ∷ 10 ∷ []

pub hello_bytes : (protocol : Protocol) (id : ℕ) → spelling (hello_map protocol id) ≡ hello_front protocol ++ ((decimal id ++ line_end) ++ hello_back)
hello_bytes Two id = rw (twelve, six, five, seven, two, four, eight, none) refl
hello_bytes Three id = rw (twelve, six, five, seven, three, two, four, eight, none) refl

abbrev pub pong_front : List ℕ
pong_front = 42 ∷ 50 ∷ 13 ∷ 10 ∷ 36 ∷ 52 ∷ 13 ∷ 10 ∷ 112 ∷ 111 ∷ 110 ∷ 103 ∷ 13 ∷ 10 ∷ []

pub pong_bytes : (words : List (List ℕ)) → spelling (pong words) ≡ pong_front ++ spelling (bulk (first words))
pong_bytes words = rw (two, four) (ap (λ (t : List ℕ). pong_front ++ t) (append-nil (spelling (bulk (first words)))))

count_names : (masters : List MasterPlan) → count (frames_of (map bulk (names_of masters))) ≡ length masters
count_names [] = refl
count_names (master ∷ masters) = ap suc (count_names masters)

abbrev pub role_front : List ℕ
role_front = 42 ∷ 50 ∷ 13 ∷ 10 ∷ 36 ∷ 56 ∷ 13 ∷ 10 ∷ 115 ∷ 101 ∷ 110 ∷ 116 ∷ 105 ∷ 110 ∷ 101 ∷ 108 ∷ 13 ∷ 10 ∷ 42 ∷ []

pub role_bytes : (masters : List MasterPlan)
    → spelling (role (names_of masters)) ≡ role_front ++ ((decimal (length masters) ++ line_end) ++ spellings (frames_of (map bulk (names_of masters))))
role_bytes masters =
    rw (two, eight, count_names masters)
    (ap (λ (t : List ℕ). role_front ++ t) (append-nil ((decimal (length masters) ++ line_end) ++ spellings (frames_of (map bulk (names_of masters))))))

-- the answer to HELLO, where an option was refused or none was
pub refused_welcome : (before : List ℕ) (refusal : Option Frame) (answer : Frame) → true ≡ is_some refusal → refusal_text before refusal ≡ spelling (or_else refusal answer)
refused_welcome before None answer h = absurd (true≢false h)
refused_welcome before (Some refusal) answer h = refl

pub plain_welcome : (refusal : Option Frame) (answer : Frame) → false ≡ is_some refusal → spelling answer ≡ spelling (or_else refusal answer)
plain_welcome None answer h = refl
plain_welcome (Some refusal) answer h = absurd (true≢false (sym h))

-- the answer to HELLO of a client that gave the password
pub greeting_bytes : (asker : ClientInfo) (protocol : Protocol) (admitted : Bool) (id : ℕ) → lacks_password asker.password admitted ≡ false → id ≡ asker.id
    → spelling (greeting_of asker protocol admitted) ≡ spelling (hello_map protocol id)
greeting_bytes asker protocol admitted id given same =
    ap (λ (t : Bool). spelling (elim t as (λ _. Frame) [ true ↦ no_auth_yet | false ↦ hello_map protocol asker.id ])) given
    ∙ ap (λ (n : ℕ). spelling (hello_map protocol n)) (sym same)

-- nothing is kept of an INFO
abbrev pub uncached_row : List ℕ
uncached_row = 42 ∷ 50 ∷ 13 ∷ 10 ∷ 58 ∷ 48 ∷ 13 ∷ 10 ∷ 36 ∷ 45 ∷ 49 ∷ 13 ∷ 10 ∷ []

pub uncached_none : (n : ℕ) → n ≡ 0 → spellings (uncached n) ≡ []
uncached_none n h = rw (h) refl

pub uncached_more : (n : ℕ) → 0 < n → spellings (uncached n) ≡ uncached_row ++ spellings (uncached (n - 1))
uncached_more zero h = absurd (omega (arith, h))
uncached_more (suc n) h =
    let less : suc n - 1 ≡ n = omega arith in
    rw (less, two, none) refl
