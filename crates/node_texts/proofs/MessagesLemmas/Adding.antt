-- Answers that are written part by part.
use Rattle.std.proofs.Common.{◌≡◌, ℕ, ◌+◌, Bool, true, false, List, [], ◌∷◌, ◌++◌, pos, sym, ap, ◌∙◌, append_assoc, append-nil, decimal, arith, Option}
use Rattle.std.specs.Int.{from_bool}
use Rattle.std.proofs.lemmas.Fmt.{decimal_digit}
use Rattle.ballot_law.specs.declared.addresses.RunId.{RunId}
use Rattle.resp2.specs.Commands.{candidate_text}
use Rattle.resp2.specs.Framing.Frame.{bulk, int, spelling, line_end}
use Rattle.node_texts.specs.Messages.MessageTexts.{down_number, answer_front, answer_frame}

-- three parts, one behind the other
three_parts : (old one two new a b c whole : List ℕ) → one ≡ old ++ a → two ≡ one ++ b → new ≡ two ++ c → a ++ (b ++ c) ≡ whole → new ≡ old ++ whole
three_parts old one two new a b c whole e f g w =
    g ∙ ap (λ t. t ++ c) (f ∙ ap (λ t. t ++ b) e) ∙ append_assoc (old ++ a) b c ∙ append_assoc old a (b ++ c) ∙ ap (λ t. old ++ t) w

pub front_text : (down : Bool) (digit : ℕ) → digit ≡ from_bool down → 42 ∷ 51 ∷ 13 ∷ 10 ∷ 58 ∷ (48 + digit) ∷ 13 ∷ 10 ∷ [] ≡ answer_front down
front_text true digit e =
    let three : decimal 3 ≡ 51 ∷ [] = decimal_digit 3 (omega arith) in
    let one : decimal 1 ≡ 49 ∷ [] = decimal_digit 1 (omega arith) in
    ap (λ n. 42 ∷ 51 ∷ 13 ∷ 10 ∷ 58 ∷ (48 + n) ∷ 13 ∷ 10 ∷ []) e
    ∙ sym (ap (λ n. 42 ∷ ((n ++ line_end) ++ 58 ∷ (decimal 1 ++ line_end))) three ∙ ap (λ n. 42 ∷ 51 ∷ 13 ∷ 10 ∷ 58 ∷ (n ++ line_end)) one)
front_text false digit e =
    let three : decimal 3 ≡ 51 ∷ [] = decimal_digit 3 (omega arith) in
    let none : decimal 0 ≡ 48 ∷ [] = decimal_digit 0 (omega arith) in
    ap (λ n. 42 ∷ 51 ∷ 13 ∷ 10 ∷ 58 ∷ (48 + n) ∷ 13 ∷ 10 ∷ []) e
    ∙ sym (ap (λ n. 42 ∷ ((n ++ line_end) ++ 58 ∷ (decimal 0 ++ line_end))) three ∙ ap (λ n. 42 ∷ 51 ∷ 13 ∷ 10 ∷ 58 ∷ (n ++ line_end)) none)

pub answer_added : (old one two new : List ℕ) (down : Bool) (leader : Option RunId) (epoch : ℕ) → one ≡ old ++ answer_front down →
    two ≡ one ++ spelling (bulk (candidate_text leader))
    → new ≡ two ++ spelling (int (pos epoch)) → new ≡ old ++ spelling (answer_frame down leader epoch)
answer_added old one two new down leader epoch e f g =
    let whether = spelling (int (pos (down_number down))) in
    let voted = spelling (bulk (candidate_text leader)) in
    let last = spelling (int (pos epoch)) in
    three_parts old one two new (answer_front down) voted last (spelling (answer_frame down leader epoch)) e f g
    (ap (λ t. 42 ∷ t) (append_assoc (decimal 3 ++ line_end) whether (voted ++ last))
    ∙ ap (λ t. 42 ∷ ((decimal 3 ++ line_end) ++ (whether ++ (voted ++ t)))) (sym (append-nil last)))
