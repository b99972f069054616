-- Words that end at the first byte of a kind, and the ends of a line.
use Rattle.std.proofs.Common.{◌≡◌, ℕ, zero, suc, ◌+◌, ◌-◌, ◌≤◌, ◌<◌, true, false, eqb, List, [], ◌∷◌, length, take, drop, refl, ap, sym, ◌∙◌, arith, add-one}
use Rattle.std.specs.Prelude.{slice_index}
use Rattle.ballot_law.specs.Cuts.{with_first, IsEnd}
use Rattle.ballot_law.proofs.CutLemmas.{tail_end}
use Rattle.conf_lines.specs.Words.{is_blank, is_edge, is_quote, before_edges, joined_unless_empty, words_at}
use Rattle.conf_lines.specs.Words.Mode.{Between, Plain, Quoted}

step_plain : (b : ℕ) (bs : List ℕ) → is_blank b ≡ false → words_at (b ∷ bs) Plain ≡ with_first b (words_at bs Plain)
step_plain b bs h =
    ap (λ t. elim t as (λ _. List (List ℕ)) [ true ↦ [] ∷ words_at bs Between | false ↦ with_first b (words_at bs Plain) ]) h

end_plain : (b : ℕ) (bs : List ℕ) → is_blank b ≡ true → words_at (b ∷ bs) Plain ≡ [] ∷ words_at bs Between
end_plain b bs h =
    ap (λ t. elim t as (λ _. List (List ℕ)) [ true ↦ [] ∷ words_at bs Between | false ↦ with_first b (words_at bs Plain) ]) h

plain_at : (text : List ℕ) (end : ℕ) → IsEnd is_blank text end → words_at text Plain ≡ take end text ∷ words_at (drop (suc end) text) Between
plain_at [] zero e = refl
plain_at [] (suc end) e = absurd (let h : suc end ≤ 0 = e.within in omega arith)
plain_at (b ∷ bs) zero e = end_plain b bs (e.here (omega arith))
plain_at (b ∷ bs) (suc end) e =
    step_plain b bs (e.before 0 (omega arith)) ∙ ap (with_first b) (plain_at bs end (tail_end is_blank b bs end e))

step_quoted : (b : ℕ) (bs : List ℕ) → eqb b 34 ≡ false → words_at (b ∷ bs) Quoted ≡ with_first b (words_at bs Quoted)
step_quoted b bs h =
    ap (λ t. elim t as (λ _. List (List ℕ)) [ true ↦ [] ∷ words_at bs Between | false ↦ with_first b (words_at bs Quoted) ]) h

end_quoted : (b : ℕ) (bs : List ℕ) → eqb b 34 ≡ true → words_at (b ∷ bs) Quoted ≡ [] ∷ words_at bs Between
end_quoted b bs h =
    ap (λ t. elim t as (λ _. List (List ℕ)) [ true ↦ [] ∷ words_at bs Between | false ↦ with_first b (words_at bs Quoted) ]) h

quoted_at : (text : List ℕ) (end : ℕ) → IsEnd is_quote text end → words_at text Quoted ≡ take end text ∷ words_at (drop (suc end) text) Between
quoted_at [] zero e = refl
quoted_at [] (suc end) e = absurd (let h : suc end ≤ 0 = e.within in omega arith)
quoted_at (b ∷ bs) zero e = end_quoted b bs (e.here (omega arith))
quoted_at (b ∷ bs) (suc end) e =
    step_quoted b bs (e.before 0 (omega arith)) ∙ ap (with_first b) (quoted_at bs end (tail_end is_quote b bs end e))

pub plain_cut : (text : List ℕ) (end : ℕ) → IsEnd is_blank text end → words_at text Plain ≡ take end text ∷ words_at (drop (end + 1) text) Between
plain_cut text end e = rw (add-one end) (plain_at text end e)

pub quoted_cut : (text : List ℕ) (end : ℕ) → IsEnd is_quote text end → words_at text Quoted ≡ take end text ∷ words_at (drop (end + 1) text) Between
quoted_cut text end e = rw (add-one end) (quoted_at text end e)

stays_at : (xs : List ℕ) (n : ℕ) → length xs ≡ suc n → is_edge (slice_index xs n) ≡ false → before_edges xs ≡ xs
stays_at [] n h e = absurd (omega arith)
stays_at (b ∷ []) zero h e = ap (λ t. elim t as (λ _. List ℕ) [ true ↦ [] | false ↦ b ∷ [] ]) e
stays_at (b ∷ []) (suc n) h e = absurd (let k : 1 ≡ suc (suc n) = h in omega arith)
stays_at (b ∷ c ∷ cs) zero h e = absurd (let k : suc (suc (length cs)) ≡ 1 = h in omega arith)
stays_at (b ∷ c ∷ cs) (suc n) h e =
    ap (joined_unless_empty b) (stays_at (c ∷ cs) n (let k : suc (suc (length cs)) ≡ suc (suc n) = h in let r : suc (length cs) ≡ suc n = omega arith in r) e)

drops_at : (xs : List ℕ) (n : ℕ) → length xs ≡ suc n → is_edge (slice_index xs n) ≡ true → before_edges (take n xs) ≡ before_edges xs
drops_at [] n h e = absurd (omega arith)
drops_at (b ∷ []) zero h e = sym (ap (λ t. elim t as (λ _. List ℕ) [ true ↦ [] | false ↦ b ∷ [] ]) e)
drops_at (b ∷ []) (suc n) h e = absurd (let k : 1 ≡ suc (suc n) = h in omega arith)
drops_at (b ∷ c ∷ cs) zero h e = absurd (let k : suc (suc (length cs)) ≡ 1 = h in omega arith)
drops_at (b ∷ c ∷ cs) (suc n) h e =
    ap (joined_unless_empty b) (drops_at (c ∷ cs) n (let k : suc (suc (length cs)) ≡ suc (suc n) = h in let r : suc (length cs) ≡ suc n = omega arith in r) e)

pub before_edges_stays : (xs : List ℕ) → 0 < length xs → is_edge (slice_index xs (length xs - 1)) ≡ false → before_edges xs ≡ xs
before_edges_stays xs h e = stays_at xs (length xs - 1) (omega arith) e

pub before_edges_drops : (xs : List ℕ) → 0 < length xs → is_edge (slice_index xs (length xs - 1)) ≡ true → before_edges (take (length xs - 1) xs) ≡ before_edges xs
before_edges_drops xs h e = drops_at xs (length xs - 1) (omega arith) e
