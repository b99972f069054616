-- Fields that are added one behind the other.
use Rattle.std.proofs.Common.{◌≡◌, ℕ, List, [], ◌∷◌, ◌++◌, take, drop, refl, ap, sym, ◌∙◌, append_assoc, append-nil}
use Rattle.std.proofs.lemmas.List.{take-append-drop}
use Rattle.resp2.specs.Framing.Frame.{bulk, spelling}
use Rattle.ballot_law.specs.declared.messages.TheConstants.{ANSWER_MAX}
use Rattle.port_answers.specs.Room.{bounded}
use Rattle.port_answers.specs.Answers.{fields_text, header}
use Rattle.bounded_list.proofs.Bounded.{added_both}

pub fields_text-append : (xs ys : List (List ℕ × List ℕ)) → fields_text (xs ++ ys) ≡ fields_text xs ++ fields_text ys
fields_text-append [] ys = refl
fields_text-append (x ∷ xs) ys =
    ap (λ t. spelling (bulk x.0) ++ (spelling (bulk x.1) ++ t)) (fields_text-append xs ys)
    ∙ sym (append_assoc (spelling (bulk x.0)) (spelling (bulk x.1) ++ fields_text xs) (fields_text ys)
    ∙ ap (λ t. spelling (bulk x.0) ++ t) (append_assoc (spelling (bulk x.1)) (fields_text xs) (fields_text ys)))

-- a name and a value make a field
pub one_field : (old name value : List ℕ) → bounded (bounded (old ++ spelling (bulk name)) ++ spelling (bulk value)) ≡ bounded (old ++ fields_text ((name, value) ∷ []))
one_field old name value =
    added_both ANSWER_MAX old (spelling (bulk name)) (spelling (bulk value))
    ∙ ap (λ t. bounded (old ++ (spelling (bulk name) ++ t))) (sym (append-nil (spelling (bulk value))))

pub field_of : (old mid new name value : List ℕ) → mid ≡ bounded (old ++ spelling (bulk name)) → new ≡ bounded (mid ++ spelling (bulk value)) →
    new ≡ bounded (old ++ fields_text ((name, value) ∷ []))
field_of old mid new name value e f = f ∙ ap (λ t. bounded (t ++ spelling (bulk value))) e ∙ one_field old name value

-- some fields, and then others
pub then_fields : (old mid new : List ℕ) (xs ys : List (List ℕ × List ℕ)) → mid ≡ bounded (old ++ fields_text xs) → new ≡ bounded (mid ++ fields_text ys)
    → new ≡ bounded (old ++ fields_text (xs ++ ys))
then_fields old mid new xs ys e f =
    f
    ∙ ap (λ t. bounded (t ++ fields_text ys)) e
    ∙ added_both ANSWER_MAX old (fields_text xs) (fields_text ys)
    ∙ ap (λ t. bounded (old ++ t)) (sym (fields_text-append xs ys))

-- the next n of these fields, and then those behind them
pub next : (fields : List (List ℕ × List ℕ)) (k n : ℕ) (old mid new : List ℕ) → mid ≡ bounded (old ++ fields_text (take n (drop k fields)))
    → new ≡ bounded (mid ++ fields_text (drop n (drop k fields))) → new ≡ bounded (old ++ fields_text (drop k fields))
next fields k n old mid new e f =
    then_fields old mid new (take n (drop k fields)) (drop n (drop k fields)) e f ∙ ap (λ t. bounded (old ++ fields_text t)) (take-append-drop n (drop k fields))

-- the beginning of an array, and then its fields
pub headed : (count : ℕ) (fields : List (List ℕ × List ℕ)) (old mid new : List ℕ) → mid ≡ bounded (old ++ header count) → new ≡ bounded (mid ++ fields_text fields)
    → new ≡ bounded (old ++ (header count ++ fields_text fields))
headed count fields old mid new e f = f ∙ ap (λ t. bounded (t ++ fields_text fields)) e ∙ added_both ANSWER_MAX old (header count) (fields_text fields)

-- a line of two texts and a number between them
pub line_of : (old new before number behind end : List ℕ) → new ≡ bounded (old ++ (before ++ (number ++ (behind ++ end)))) →
    new ≡ bounded (old ++ (before ++ ((number ++ behind) ++ end)))
line_of old new before number behind end e = e ∙ ap (λ t. bounded (old ++ (before ++ t))) (sym (append_assoc number behind end))

-- the beginning of an array of so many values, and then its fields
pub counted : (n count : ℕ) (fields : List (List ℕ × List ℕ)) (old mid new : List ℕ) → mid ≡ bounded (old ++ header n) → new ≡ bounded (mid ++ fields_text fields)
    → n ≡ count → new ≡ bounded (old ++ (header count ++ fields_text fields))
counted n count fields old mid new e f is = headed n fields old mid new e f ∙ ap (λ k. bounded (old ++ (header k ++ fields_text fields))) is
