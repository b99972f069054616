-- One addition after another.
use Rattle.std.proofs.Common.{◌≡◌, ℕ, List, [], ◌∷◌, ◌++◌, length, take, refl, ap, sym, ◌∙◌, append_assoc, Result, Ok, Err}
use Rattle.std.specs.Result.{IsErr}
use Rattle.resp2.specs.Framing.Writing.{Begins, Adds}

-- what begins a text that begins another begins that one
pub begins : (xs ys zs : List ℕ) → Begins (xs ++ ys) zs → Begins xs zs
begins [] ys zs h = refl
begins (x ∷ xs) ys [] h = cc
begins (x ∷ xs) ys (z ∷ zs) h =
    let behind : take (length (xs ++ ys)) zs ≡ xs ++ ys = cc in
    let same : z ≡ x = cc in
    let front = begins xs ys zs behind in
    cc

-- what begins a text begins it with more behind it
pub begins_more : (xs ys zs : List ℕ) → Begins xs ys → Begins xs (ys ++ zs)
begins_more [] ys zs h = refl
begins_more (x ∷ xs) [] zs h = cc
begins_more (x ∷ xs) (y ∷ ys) zs h =
    let behind : take (length xs) ys ≡ xs = cc in
    let same : y ≡ x = cc in
    let front = begins_more xs ys zs behind in
    cc

-- where there was no room for a part, there is none for what begins with it
pub adds_part : {X E : Type 0} (answer : Result X E) (before after some more all : List ℕ) (full : Type 0)
    → IsErr answer → Begins before after × Begins after (before ++ some) × full → some ++ more ≡ all → Adds answer before after all full
adds_part (Ok x) before after some more all full none h joined = cc
adds_part (Err x) before after some more all full none h joined =
    let longer : Begins after (before ++ (some ++ more)) = rw (sym (append_assoc before some more)) (begins_more after (before ++ some) more h.1) in
    (h.0, rw joined at longer, h.2)

-- two additions are one of both
pub adds_both : {X E : Type 0} (answer : Result X E) (before middle after some more all : List ℕ) (full : Type 0)
    → middle ≡ before ++ some → Adds answer middle after more full → some ++ more ≡ all → Adds answer before after all full
adds_both (Ok x) before middle after some more all full e h joined = h ∙ ap (λ (t : List ℕ). t ++ more) e ∙ append_assoc before some more ∙ ap (λ (t : List ℕ). before ++ t) joined
adds_both (Err x) before middle after some more all full e h joined =
    let whole : middle ++ more ≡ before ++ all = ap (λ (t : List ℕ). t ++ more) e ∙ append_assoc before some more ∙ ap (λ (t : List ℕ). before ++ t) joined in
    (begins before some after (rw e at h.0), rw whole at h.1, h.2)
