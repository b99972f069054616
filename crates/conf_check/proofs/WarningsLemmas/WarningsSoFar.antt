-- Warnings one after the other.
use Rattle.std.proofs.Common.{◌≡◌, ℕ, suc, ◌-◌, ◌≤◌, List, [], ◌∷◌, ◌++◌, length, take, drop, get_or, refl, ap, sym, ◌∙◌, arith, append_assoc, Result, Ok, Err, OnOk, codes, decimal}
use Rattle.std.proofs.lemmas.List.{take_all}
use Rattle.std.specs.List.{flat_map}
use Rattle.conf_check.specs.declared.warnings.line_advices.Advice.{Advice}
use Rattle.conf_check.specs.Warnings.Warnings.{line_at, told_words, warning}

-- the pieces of a line, added one after the other
pub pieces : (done a path b number c told end one two three : List ℕ) → one ≡ done ++ (a ++ (path ++ (b ++ (number ++ c)))) → two ≡ one ++ told → three ≡ two ++ end
    → three ≡ done ++ (a ++ (path ++ (b ++ (number ++ (c ++ (told ++ end))))))
pieces done a path b number c told end one two three o w t =
    t
    ∙ ap (λ u. u ++ end) (w ∙ ap (λ u. u ++ told) o)
    ∙ append_assoc (done ++ (a ++ (path ++ (b ++ (number ++ c))))) told end
    ∙ append_assoc done (a ++ (path ++ (b ++ (number ++ c)))) (told ++ end)
    ∙ ap (λ u. done ++ u) (append_assoc a (path ++ (b ++ (number ++ c))) (told ++ end)
    ∙ ap (λ u. a ++ u) (append_assoc path (b ++ (number ++ c)) (told ++ end)
    ∙ ap (λ u. path ++ u) (append_assoc b (number ++ c) (told ++ end) ∙ ap (λ u. b ++ u) (append_assoc number c (told ++ end)))))

-- one element more has its text
pub one_more : (f : Advice → List ℕ) (all done : List ℕ) (rest : List Advice) (d : Advice) (new : List ℕ) → 1 ≤ length rest
    → new ≡ done ++ f (get_or rest 0 d) → all ≡ done ++ flat_map f rest → all ≡ new ++ flat_map f (take (length rest - 1) (drop 1 rest))
one_more f all done [] d new l n h = absurd (omega arith)
one_more f all done (x ∷ xs) d new l n h =
    h
    ∙ sym (append_assoc done (f x) (flat_map f xs))
    ∙ ap (λ t. t ++ flat_map f xs) (sym n)
    ∙ ap (λ t. new ++ flat_map f t) (sym (take_all (length (x ∷ xs) - 1) xs (let k : length (x ∷ xs) ≡ suc (length xs) = refl in omega arith)))

-- one advice more has its line
pub one_warning : (first sentinel : List (List ℕ)) (sentinels : ℕ) (path : List ℕ) (texts : List (List ℕ)) (all done : List ℕ) (rest : List Advice) (d : Advice) (said one two new : List ℕ) → 1 ≤ length rest
    → one ≡ done ++ (codes "warning: " ++ (path ++ (codes ":" ++ (decimal (get_or rest 0 d).line ++ codes ": ")))) → said ≡ line_at texts (get_or rest 0 d).line
    → two ≡ one ++ told_words first sentinel sentinels said (get_or rest 0 d).kind → new ≡ two ++ codes "\n"
    → all ≡ done ++ flat_map (warning first sentinel sentinels path texts) rest
    → all ≡ new ++ flat_map (warning first sentinel sentinels path texts) (take (length rest - 1) (drop 1 rest))
one_warning first sentinel sentinels path texts all done rest d said one two new l o i w n h =
    let advice = get_or rest 0 d in
    one_more (warning first sentinel sentinels path texts) all done rest d new l
    (pieces done (codes "warning: ") path (codes ":") (decimal advice.line) (codes ": ") (told_words first sentinel sentinels (line_at texts advice.line) advice.kind) (codes "\n")
    one two new o (w ∙ ap (λ t. one ++ told_words first sentinel sentinels t advice.kind) i) n) h

-- five words and numbers, added one after the other
pub five : {T E : Type 0} (r : Result T E) (done a b c d e one two three four last : List ℕ) → one ≡ done ++ a → two ≡ one ++ b → three ≡ two ++ c → four ≡ three ++ d
    → OnOk r (last ≡ four ++ e) → OnOk r (last ≡ done ++ (a ++ (b ++ (c ++ (d ++ e)))))
five (Ok x) done a b c d e one two three four last p q s t h =
    h
    ∙ ap (λ u. u ++ e) (t ∙ ap (λ u. u ++ d) (s ∙ ap (λ u. u ++ c) (q ∙ ap (λ u. u ++ b) p)))
    ∙ append_assoc (((done ++ a) ++ b) ++ c) d e
    ∙ append_assoc ((done ++ a) ++ b) c (d ++ e)
    ∙ append_assoc (done ++ a) b (c ++ (d ++ e))
    ∙ append_assoc done a (b ++ (c ++ (d ++ e)))
five (Err fault) done a b c d e one two three four last p q s t h = h
