-- What a class lists, one byte or span after the other.
use Rattle.std.proofs.Common.{◌≡◌, ◌≢◌, ℕ, List, [], ◌∷◌, Bool, true, false, ◌||◌, ◌==◌, refl, sym, ap, ◌∙◌, subst, true≢false}
use Rattle.std.proofs.lemmas.Bool.{ne_eqb}
use Rattle.pubsub.specs.Globs.{is_within, first_has, after_first, is_listed, after_listed}

or_none : (x : Bool) → x ≡ (x || false)
or_none true = refl
or_none false = refl

-- the class ends at a `]`
closed : (xs : List ℕ) (b : ℕ) → is_listed (93 ∷ xs) b ≡ false
closed [] b = refl
closed (y ∷ []) b = refl
closed (y ∷ z ∷ more) b = refl

closed_after : (xs : List ℕ) → after_listed (93 ∷ xs) ≡ xs
closed_after [] = refl
closed_after (y ∷ []) = refl
closed_after (y ∷ z ∷ more) = refl

pub closes : (x : ℕ) (xs : List ℕ) (b : ℕ) → x ≡ 93 → is_listed (x ∷ xs) b ≡ false
closes x xs b e = subst (λ (n : ℕ). is_listed (n ∷ xs) b ≡ false) (sym e) (closed xs b)

pub closes_after : (x : ℕ) (xs : List ℕ) → x ≡ 93 → after_listed (x ∷ xs) ≡ xs
closes_after x xs e = subst (λ (n : ℕ). after_listed (n ∷ xs) ≡ xs) (sym e) (closed_after xs)

-- with both tests in plain sight
has_alone : (e c : Bool) (x b : ℕ) → c ≡ false
    → elim c as (λ _. Bool) [ true ↦ false | false ↦ x == b ] ≡ ((x == b) || false)
has_alone e true x b h = absurd (true≢false h)
has_alone e false x b h = or_none (x == b)

has_pair : (e c : Bool) (one two last : Bool) → c ≡ false
    → elim e as (λ _. Bool) [ true ↦ one | false ↦ elim c as (λ _. Bool) [ true ↦ false | false ↦ two || last ] ]
    ≡ (elim e as (λ _. Bool) [ true ↦ one | false ↦ two ] || elim e as (λ _. Bool) [ true ↦ false | false ↦ last ])
has_pair e true one two last h = absurd (true≢false h)
has_pair true false one two last h = or_none one
has_pair false false one two last h = refl

has_more : (e c d : Bool) (one two three one_later two_later three_later : Bool) → c ≡ false
    → elim e as (λ _. Bool) [
      | true ↦ one || one_later
      | false ↦ elim c as (λ _. Bool) [ true ↦ false | false ↦ elim d as (λ _. Bool) [ true ↦ two || two_later | false ↦ three || three_later ] ]
    ]
    ≡ (elim e as (λ _. Bool) [ true ↦ one | false ↦ elim d as (λ _. Bool) [ true ↦ two | false ↦ three ] ]
    || elim e as (λ _. Bool) [ true ↦ one_later | false ↦ elim d as (λ _. Bool) [ true ↦ two_later | false ↦ three_later ] ])
has_more e true d one two three one_later two_later three_later h = absurd (true≢false h)
has_more true false d one two three one_later two_later three_later h = refl
has_more false false true one two three one_later two_later three_later h = refl
has_more false false false one two three one_later two_later three_later h = refl

-- what a choice of two lists has
listed_either : (e : Bool) (one two : List ℕ) (b : ℕ)
    → elim e as (λ _. Bool) [ true ↦ is_listed one b | false ↦ is_listed two b ] ≡ is_listed (elim e as (λ _. List ℕ) [ true ↦ one | false ↦ two ]) b
listed_either true one two b = refl
listed_either false one two b = refl

listed_of_three : (e d : Bool) (one two three : List ℕ) (b : ℕ)
    → elim e as (λ _. Bool) [ true ↦ is_listed one b | false ↦ elim d as (λ _. Bool) [ true ↦ is_listed two b | false ↦ is_listed three b ] ]
    ≡ is_listed (elim e as (λ _. List ℕ) [ true ↦ one | false ↦ elim d as (λ _. List ℕ) [ true ↦ two | false ↦ three ] ]) b
listed_of_three true d one two three b = refl
listed_of_three false true one two three b = refl
listed_of_three false false one two three b = refl

at_one : (x : ℕ) (xs : List ℕ) (b : ℕ) → (x == 93) ≡ false → is_listed (x ∷ xs) b ≡ (first_has x xs b || is_listed (after_first x xs) b)
at_one x [] b h = has_alone (x == 92) (x == 93) x b h
at_one x (y ∷ []) b h =
    has_pair (x == 92) (x == 93) (y == b) (x == b) (is_listed (y ∷ []) b) h
    ∙ ap (λ (t : Bool). elim (x == 92) as (λ _. Bool) [ true ↦ y == b | false ↦ x == b ] || t) (listed_either (x == 92) [] (y ∷ []) b)
at_one x (y ∷ z ∷ more) b h =
    has_more (x == 92) (x == 93) (y == 45) (y == b) (is_within x z b) (x == b) (is_listed (z ∷ more) b) (is_listed more b) (is_listed (y ∷ z ∷ more) b) h
    ∙ ap (λ (t : Bool). elim (x == 92) as (λ _. Bool) [ true ↦ y == b | false ↦ elim (y == 45) as (λ _. Bool) [ true ↦ is_within x z b | false ↦ x == b ] ] || t)
    (listed_of_three (x == 92) (y == 45) (z ∷ more) more (y ∷ z ∷ more) b)

after_pair : (e c : Bool) (y : ℕ) → c ≡ false
    → elim e as (λ _. List ℕ) [ true ↦ [] | false ↦ elim c as (λ _. List ℕ) [ true ↦ y ∷ [] | false ↦ after_listed (y ∷ []) ] ]
    ≡ after_listed (elim e as (λ _. List ℕ) [ true ↦ [] | false ↦ y ∷ [] ])
after_pair e true y h = absurd (true≢false h)
after_pair true false y h = refl
after_pair false false y h = refl

after_more : (e c d : Bool) (y z : ℕ) (more : List ℕ) → c ≡ false
    → elim e as (λ _. List ℕ) [
      | true ↦ after_listed (z ∷ more)
      | false ↦ elim c as (λ _. List ℕ) [
        | true ↦ y ∷ z ∷ more
        | false ↦ elim d as (λ _. List ℕ) [ true ↦ after_listed more | false ↦ after_listed (y ∷ z ∷ more) ]
      ]
    ]
    ≡ after_listed (elim e as (λ _. List ℕ) [ true ↦ z ∷ more | false ↦ elim d as (λ _. List ℕ) [ true ↦ more | false ↦ y ∷ z ∷ more ] ])
after_more e true d y z more h = absurd (true≢false h)
after_more true false d y z more h = refl
after_more false false true y z more h = refl
after_more false false false y z more h = refl

after_one : (x : ℕ) (xs : List ℕ) → (x == 93) ≡ false → after_listed (x ∷ xs) ≡ after_listed (after_first x xs)
after_one x [] h = refl
after_one x (y ∷ []) h = after_pair (x == 92) (x == 93) y h
after_one x (y ∷ z ∷ more) h = after_more (x == 92) (x == 93) (y == 45) y z more h

-- where no `]` comes first, what is listed goes on after its first byte or span
pub goes_on : (rest more after : List ℕ) (x b : ℕ) (one : Bool) → rest ≡ x ∷ more → x ≢ 93 → one ≡ first_has x more b → after ≡ after_first x more
    → is_listed rest b ≡ (one || is_listed after b)
goes_on rest more after x b one r h o a =
    ap (λ (t : List ℕ). is_listed t b) r
    ∙ at_one x more b (ne_eqb x 93 h)
    ∙ ap (λ (t : Bool). t || is_listed (after_first x more) b) (sym o)
    ∙ ap (λ (t : List ℕ). one || is_listed t b) (sym a)

pub goes_on_after : (rest more after : List ℕ) (x : ℕ) → rest ≡ x ∷ more → x ≢ 93 → after ≡ after_first x more → after_listed rest ≡ after_listed after
goes_on_after rest more after x r h a = ap after_listed r ∙ after_one x more (ne_eqb x 93 h) ∙ ap after_listed (sym a)
