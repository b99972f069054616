-- Words that are spelled with one space between them are read back, and so are lines.
use Rattle.std.proofs.Common.{◌≡◌, ℕ, ◌≤◌, ◌≢◌, true, false, eqb, List, [], ◌∷◌, ◌++◌, refl, ap, ◌∙◌, arith, append_assoc}
use Rattle.std.specs.List.{flat_map, AllByRecursion}
use Rattle.std.proofs.lemmas.Bool.Decides.{nat_tests}
use Rattle.ballot_law.specs.Cuts.{lines, with_first}
use Rattle.conf_lines.specs.Words.{is_blank, is_edge, after_edges, before_edges, joined_unless_empty, words_at, words_of, spaced}
use Rattle.conf_lines.specs.Words.Mode.{Between, Plain, Quoted}
use Rattle.conf_lines.specs.Words.{ended}
use Rattle.ballot_law.proofs.WordLemmas.{ArePlain, IsWord}

abbrev pub AreWords : List (List ℕ) → Type 0
AreWords = AllByRecursion IsWord

blank_plain : (b : ℕ) → 45 ≤ b → is_blank b ≡ false
blank_plain b h = grind (arith, nat_tests)

edge_plain : (b : ℕ) → 45 ≤ b → is_edge b ≡ false
edge_plain b h = grind (arith, nat_tests)

quote_plain : (b : ℕ) → 45 ≤ b → eqb b 34 ≡ false
quote_plain b h = grind (arith, nat_tests)

step_plain : (b : ℕ) (bs : List ℕ) → 45 ≤ b → words_at (b ∷ bs) Plain ≡ with_first b (words_at bs Plain)
step_plain b bs h =
    ap (λ t. elim t as (λ _. List (List ℕ)) [ true ↦ [] ∷ words_at bs Between | false ↦ with_first b (words_at bs Plain) ]) (blank_plain b h)

step_between : (b : ℕ) (bs : List ℕ) → 45 ≤ b → words_at (b ∷ bs) Between ≡ with_first b (words_at bs Plain)
step_between b bs h =
    let unquoted : List (List ℕ) = elim (eqb b 34) as (λ _. List (List ℕ)) [ true ↦ words_at bs Quoted | false ↦ with_first b (words_at bs Plain) ] in
    ap (λ t. elim t as (λ _. List (List ℕ)) [ true ↦ words_at bs Between | false ↦ unquoted ]) (blank_plain b h)
    ∙ ap (λ t. elim t as (λ _. List (List ℕ)) [ true ↦ words_at bs Quoted | false ↦ with_first b (words_at bs Plain) ]) (quote_plain b h)

plain_word : (w rest : List ℕ) → ArePlain w → words_at (w ++ 32 ∷ rest) Plain ≡ w ∷ words_at rest Between
plain_word [] rest h = refl
plain_word (b ∷ w) rest h = step_plain b (w ++ 32 ∷ rest) h.0 ∙ ap (with_first b) (plain_word w rest h.1)

last_word : (w : List ℕ) → ArePlain w → words_at w Plain ≡ w ∷ []
last_word [] h = refl
last_word (b ∷ w) h = step_plain b w h.0 ∙ ap (with_first b) (last_word w h.1)

words_at-spaced : (ws : List (List ℕ)) → AreWords ws → words_at (spaced ws) Between ≡ ws
words_at-spaced [] h = refl
words_at-spaced ([] ∷ ws) h = absurd h.0
words_at-spaced ((b ∷ w) ∷ []) h = step_between b w h.0.0 ∙ ap (with_first b) (last_word w h.0.1)
words_at-spaced ((b ∷ w) ∷ next ∷ more) h =
    step_between b (w ++ 32 ∷ spaced (next ∷ more)) h.0.0
    ∙ ap (with_first b) (plain_word w (spaced (next ∷ more)) h.0.1)
    ∙ ap (λ t. (b ∷ w) ∷ t) (words_at-spaced (next ∷ more) h.1)

-- the last byte is plain
abbrev EndsPlain : List ℕ → Type 0
EndsPlain [] = ⊥
EndsPlain (b ∷ []) = 45 ≤ b
EndsPlain (b ∷ c ∷ cs) = EndsPlain (c ∷ cs)

before_edges-ends : (xs : List ℕ) → EndsPlain xs → before_edges xs ≡ xs
before_edges-ends [] h = refl
before_edges-ends (b ∷ []) h = ap (λ t. elim t as (λ _. List ℕ) [ true ↦ [] | false ↦ b ∷ [] ]) (edge_plain b h)
before_edges-ends (b ∷ c ∷ cs) h = ap (joined_unless_empty b) (before_edges-ends (c ∷ cs) h)

ends_word : (w : List ℕ) → IsWord w → EndsPlain w
ends_word [] h = absurd h
ends_word (b ∷ []) h = h.0
ends_word (b ∷ c ∷ cs) h = ends_word (c ∷ cs) h.1

ends_append : (xs : List ℕ) (b : ℕ) (ys : List ℕ) → EndsPlain ys → EndsPlain (xs ++ b ∷ ys)
ends_append [] b [] h = absurd h
ends_append [] b (c ∷ cs) h = h
ends_append (x ∷ []) b ys h = ends_append [] b ys h
ends_append (x ∷ y ∷ xs) b ys h = ends_append (y ∷ xs) b ys h

ends_spaced : (w : List ℕ) (ws : List (List ℕ)) → AreWords (w ∷ ws) → EndsPlain (spaced (w ∷ ws))
ends_spaced w [] h = ends_word w h.0
ends_spaced w (next ∷ more) h = ends_append w 32 (spaced (next ∷ more)) (ends_spaced next more h.1)

after_edges-plain : (b : ℕ) (bs : List ℕ) → 45 ≤ b → after_edges (b ∷ bs) ≡ b ∷ bs
after_edges-plain b bs h = ap (λ t. elim t as (λ _. List ℕ) [ true ↦ after_edges bs | false ↦ b ∷ bs ]) (edge_plain b h)

after_edges-spaced : (w : List ℕ) (ws : List (List ℕ)) → AreWords (w ∷ ws) → after_edges (spaced (w ∷ ws)) ≡ spaced (w ∷ ws)
after_edges-spaced [] ws h = absurd h.0
after_edges-spaced (b ∷ w) [] h = after_edges-plain b w h.0.0
after_edges-spaced (b ∷ w) (next ∷ more) h = after_edges-plain b (w ++ 32 ∷ spaced (next ∷ more)) h.0.0

pub words_of-spaced : (w : List ℕ) (ws : List (List ℕ)) → AreWords (w ∷ ws) → words_of (spaced (w ∷ ws)) ≡ w ∷ ws
words_of-spaced w ws h =
    ap (λ t. words_at (before_edges t) Between) (after_edges-spaced w ws h)
    ∙ ap (λ t. words_at t Between) (before_edges-ends (spaced (w ∷ ws)) (ends_spaced w ws h))
    ∙ words_at-spaced (w ∷ ws) h

-- lines
abbrev pub HasNoLf : List ℕ → Type 0
HasNoLf = AllByRecursion (λ b. b ≢ 10)

not_lf : (b : ℕ) → b ≢ 10 → eqb b 10 ≡ false
not_lf b h = grind (arith, nat_tests)

pub one_line : (text rest : List ℕ) → HasNoLf text → lines (text ++ 10 ∷ rest) ≡ text ∷ lines rest
one_line [] rest h = refl
one_line (b ∷ text) rest h =
    ap (λ t. elim t as (λ _. List (List ℕ)) [ true ↦ [] ∷ lines (text ++ 10 ∷ rest) | false ↦ with_first b (lines (text ++ 10 ∷ rest)) ]) (not_lf b h.0)
    ∙ ap (with_first b) (one_line text rest h.1)

pub lines-ended : (texts : List (List ℕ)) → AllByRecursion HasNoLf texts → lines (flat_map ended texts) ≡ texts
lines-ended [] h = refl
lines-ended (text ∷ texts) h =
    ap lines (append_assoc text (10 ∷ []) (flat_map ended texts))
    ∙ one_line text (flat_map ended texts) h.0
    ∙ ap (λ t. text ∷ t) (lines-ended texts h.1)

no_lf_append : (xs ys : List ℕ) → HasNoLf xs → HasNoLf ys → HasNoLf (xs ++ ys)
no_lf_append [] ys h k = k
no_lf_append (x ∷ xs) ys h k = (h.0, no_lf_append xs ys h.1 k)

no_lf_plain : (w : List ℕ) → ArePlain w → HasNoLf w
no_lf_plain [] h = tt
no_lf_plain (b ∷ w) h = ((λ e. let le : 45 ≤ b = h.0 in omega arith), no_lf_plain w h.1)

no_lf_word : (w : List ℕ) → IsWord w → HasNoLf w
no_lf_word [] h = absurd h
no_lf_word (b ∷ w) h = no_lf_plain (b ∷ w) h

pub no_lf_spaced : (w : List ℕ) (ws : List (List ℕ)) → AreWords (w ∷ ws) → HasNoLf (spaced (w ∷ ws))
no_lf_spaced w [] h = no_lf_word w h.0
no_lf_spaced w (next ∷ more) h =
    no_lf_append w (32 ∷ spaced (next ∷ more)) (no_lf_word w h.0) ((λ e. omega arith), no_lf_spaced next more h.1)
