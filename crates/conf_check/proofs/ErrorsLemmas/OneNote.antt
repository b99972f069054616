-- A text of notes, note by note.
use Rattle.std.proofs.Common.{◌≡◌, ℕ, suc, ◌-◌, ◌≤◌, List, [], ◌∷◌, ◌++◌, length, take, drop, get_or, refl, ap, sym, ◌∙◌, subst, arith, append_assoc, append-nil, codes, decimal}
use Rattle.std.proofs.lemmas.List.{take_all}
use Rattle.conf_lines.specs.declared.faults.ConfFault.{ConfFault}
use Rattle.conf_check.specs.Errors.Notes.{AreNotes, note, places}
use Rattle.conf_check.specs.Errors.Sentences.{sentence}

-- one fault more has its note
pub one_more : (path bytes : List ℕ) (all : List ConfFault) (done : List ℕ) (rest : List ConfFault) (fault : ConfFault) (new : List ℕ) → 1 ≤ length rest
    → fault ≡ get_or rest 0 fault → ((name : List ℕ) × (new ≡ done ++ note path bytes fault name))
    → ((more : List ℕ) → AreNotes path bytes rest more → AreNotes path bytes all (done ++ more))
    → (more : List ℕ) → AreNotes path bytes (take (length rest - 1) (drop 1 rest)) more → AreNotes path bytes all (new ++ more)
one_more path bytes all done [] fault new l e n h more are = absurd (omega arith)
one_more path bytes all done (x ∷ xs) fault new l e n h more are =
    let left : take (length (x ∷ xs) - 1) xs ≡ xs = take_all (length (x ∷ xs) - 1) xs (let k : length (x ∷ xs) ≡ suc (length xs) = refl in omega arith) in
    subst (AreNotes path bytes all)
    (sym (append_assoc done (note path bytes x n.0) more) ∙ ap (λ t. t ++ more) (ap (λ f. done ++ note path bytes f n.0) (sym e) ∙ sym n.1))
    (h (note path bytes x n.0 ++ more) (n.0, more, refl, subst (λ t. AreNotes path bytes t more) left are))

-- no fault is left
pub none_left : (path bytes : List ℕ) (all : List ConfFault) (done : List ℕ) (rest : List ConfFault) → length rest ≡ 0
    → ((more : List ℕ) → AreNotes path bytes rest more → AreNotes path bytes all (done ++ more)) → AreNotes path bytes all done
none_left path bytes all done [] l h = subst (AreNotes path bytes all) (append-nil done) (h [] refl)
none_left path bytes all done (x ∷ xs) l h = absurd (cc)

-- no fault has its note yet
pub all_left : (path bytes : List ℕ) (all : List ConfFault) (done : List ℕ) (rest : List ConfFault) → done ≡ [] → rest ≡ all
    → (more : List ℕ) → AreNotes path bytes rest more → AreNotes path bytes all (done ++ more)
all_left path bytes all done rest d e more are = subst (λ t. AreNotes path bytes all (t ++ more)) (sym d) (subst (λ t. AreNotes path bytes t more) e are)

-- what stands behind the seven words with which a line begins
pub behind : (done a b c d e f g more : List ℕ) → (done ++ (a ++ (b ++ (c ++ (d ++ (e ++ (f ++ g))))))) ++ more ≡ done ++ (a ++ (b ++ (c ++ (d ++ (e ++ (f ++ (g ++ more)))))))
behind done a b c d e f g more =
    append_assoc done _ more
    ∙ ap (λ t. done ++ t) (append_assoc a _ more
    ∙ ap (λ t. a ++ t) (append_assoc b _ more
    ∙ ap (λ t. b ++ t) (append_assoc c _ more
    ∙ ap (λ t. c ++ t) (append_assoc d _ more ∙ ap (λ t. d ++ t) (append_assoc e _ more ∙ ap (λ t. e ++ t) (append_assoc f g more))))))

-- the parts of a note, added one after the other
pub whole_note : (path bytes : List ℕ) (fault : ConfFault) (name done one two three four : List ℕ)
    → one ≡ done ++ (codes "note: " ++ (path ++ (codes ":" ++ (decimal fault.line ++ (codes ": " ++ (name ++ codes ": ")))))) → two ≡ one ++ sentence fault.kind
    → three ≡ two ++ places fault.kind bytes → four ≡ three ++ codes "\n" → (name : List ℕ) × (four ≡ done ++ note path bytes fault name)
whole_note path bytes fault name done one two three four p q r s = (
  name,
  s
      ∙ ap (λ t. t ++ codes "\n") (r ∙ ap (λ t. t ++ places fault.kind bytes) (q ∙ ap (λ t. t ++ sentence fault.kind) p))
      ∙ append_assoc _ (places fault.kind bytes) (codes "\n")
      ∙ append_assoc _ (sentence fault.kind) (places fault.kind bytes ++ codes "\n")
      ∙ behind done (codes "note: ") path (codes ":") (decimal fault.line) (codes ": ") name (codes ": ") (sentence fault.kind ++ (places fault.kind bytes ++ codes "\n")),
)

-- the first of those that are left, put together from its fields
pub first_left : (rest : List ConfFault) (d e : ConfFault) → 1 ≤ length rest
    → record { line = (get_or rest 0 d).line; kind = (get_or rest 0 d).kind } ≡ get_or rest 0 e
first_left [] d e l = absurd (omega arith)
first_left (x ∷ xs) d e l = refl
