-- What a `*` before a pattern changes, and what the items of a pattern take one by one.
use Rattle.std.proofs.Common.{◌≡◌, ℕ, List, [], ◌∷◌, Bool, true, false, ◌||◌, ◌&&◌, ◌==◌, refl, sym, ap, subst, ◌∙◌, true≢false, arith}
use Rattle.pubsub.specs.Globs.{takes, after_item, after_stars, is_open, are_stars, fits, is_empty, IsStep}
use Rattle.pubsub.proofs.Shorter.{item_shorter}

-- ---- truth values

or_more : (a x y : Bool) → (x ≡ true → y ≡ true) → (a || x) ≡ true → (a || y) ≡ true
or_more true x y f h = refl
or_more false x y f h = f h

or_right : (a x : Bool) → x ≡ true → (a || x) ≡ true
or_right true x h = refl
or_right false x h = h

and_right : (a x : Bool) → (a && x) ≡ true → x ≡ true
and_right true x h = h
and_right false x h = absurd (true≢false (sym h))

or_each : (a x : Bool) (P : Type 0) → (a ≡ true → P) → (x ≡ true → P) → (a || x) ≡ true → P
or_each true x P f g h = f refl
or_each false x P f g h = g h

or_off : (x : Bool) → (x || false) ≡ x
or_off true = refl
or_off false = refl

left_off : (a x : Bool) → (a || x) ≡ false → a ≡ false
left_off true x h = h
left_off false x h = refl

and_off : (x : Bool) → (x && false) ≡ false
and_off true = refl
and_off false = refl

pub same_truth : (a b : Bool) → (a ≡ true → b ≡ true) → (b ≡ true → a ≡ true) → a ≡ b
same_truth true b f g = sym (f refl)
same_truth false true f g = g refl
same_truth false false f g = refl

-- ---- patterns

-- the first item after the stars takes the byte, and the rest fits
abbrev here : (pattern : List ℕ) (b : ℕ) (bs : List ℕ) → Bool
here pattern b bs = takes (after_stars pattern) b && fits (after_item (after_stars pattern)) bs

pub weaker : (pattern text : List ℕ) → fits pattern text ≡ true → fits (42 ∷ pattern) text ≡ true
weaker pattern [] h = h
weaker pattern (b ∷ bs) h =
    or_more (here pattern b bs) (is_open pattern && fits pattern bs) (fits (42 ∷ pattern) bs)
    (λ k. weaker pattern bs (and_right (is_open pattern) (fits pattern bs) k)) h

pub two_stars : (pattern text : List ℕ) → fits (42 ∷ 42 ∷ pattern) text ≡ fits (42 ∷ pattern) text
two_stars pattern [] = refl
two_stars pattern (b ∷ bs) = ap (λ (x : Bool). here pattern b bs || x) (two_stars pattern bs)

closed_stars : (x : ℕ) (xs : List ℕ) (test : Bool) → (x == 42) ≡ test → test ≡ false → after_stars (x ∷ xs) ≡ x ∷ xs
closed_stars x xs true e h = absurd (true≢false h)
closed_stars x xs false e h = ap (λ (t : Bool). elim t as (λ _. List ℕ) [ true ↦ after_stars xs | false ↦ x ∷ xs ]) e

closed : (pattern : List ℕ) → is_open pattern ≡ false → after_stars pattern ≡ pattern
closed [] h = refl
closed (x ∷ xs) h = closed_stars x xs (x == 42) refl h

closed_empty : (pattern : List ℕ) → is_open pattern ≡ false → are_stars pattern ≡ is_empty pattern
closed_empty [] h = refl
closed_empty (x ∷ xs) h = ap (λ (t : Bool). t && are_stars xs) h

-- a pattern that doesn't begin with a star goes on after the byte that its first item takes
pub steps : (pattern : List ℕ) (b : ℕ) (bs : List ℕ) → is_open pattern ≡ false → takes pattern b ≡ true → fits pattern (b ∷ bs) ≡ fits (after_item pattern) bs
steps pattern b bs h k =
    ap (λ (p : List ℕ). (takes p b && fits (after_item p) bs) || (is_open pattern && fits pattern bs)) (closed pattern h)
    ∙ ap (λ (t : Bool). (t && fits (after_item pattern) bs) || (is_open pattern && fits pattern bs)) k
    ∙ ap (λ (t : Bool). fits (after_item pattern) bs || (t && fits pattern bs)) h
    ∙ or_off (fits (after_item pattern) bs)

stuck : (pattern : List ℕ) (b : ℕ) (bs : List ℕ) → is_open pattern ≡ false → takes pattern b ≡ false → fits pattern (b ∷ bs) ≡ false
stuck pattern b bs h k =
    ap (λ (p : List ℕ). (takes p b && fits (after_item p) bs) || (is_open pattern && fits pattern bs)) (closed pattern h)
    ∙ ap (λ (t : Bool). (t && fits (after_item pattern) bs) || (is_open pattern && fits pattern bs)) k
    ∙ ap (λ (t : Bool). t && fits pattern bs) h

pub stuck_ended : (pattern : List ℕ) (b : ℕ) (bs : List ℕ) → takes pattern b ≡ false → is_open pattern ≡ false
    → fits pattern (b ∷ bs) ≡ (is_empty pattern && is_empty (b ∷ bs))
stuck_ended pattern b bs k h = stuck pattern b bs h k ∙ sym (and_off (is_empty pattern))

and_on : (x : Bool) → (x && true) ≡ x
and_on true = refl
and_on false = refl

pub text_ended : (pattern : List ℕ) → is_open pattern ≡ false → fits pattern [] ≡ (is_empty pattern && is_empty [])
text_ended pattern h = closed_empty pattern h ∙ sym (and_on (is_empty pattern))

no_stars : (pattern : List ℕ) (b : ℕ) → is_open pattern ≡ false → takes pattern b ≡ true → are_stars pattern ≡ true → fits (42 ∷ after_item pattern) [] ≡ true
no_stars [] b h k s = absurd (true≢false (sym k))
no_stars (x ∷ xs) b h k s = absurd (true≢false (sym s ∙ closed_empty (x ∷ xs) h))

-- where a later place serves the pattern, one serves what follows its first item
pub later : (pattern : List ℕ) (b : ℕ) → is_open pattern ≡ false → takes pattern b ≡ true → (text : List ℕ)
    → fits (42 ∷ pattern) text ≡ true → fits (42 ∷ after_item pattern) text ≡ true
later pattern b h k [] s = no_stars pattern b h k s
later pattern b h k (d ∷ ds) s =
    let first : here pattern d ds ≡ true → fits (42 ∷ after_item pattern) ds ≡ true =
    λ e. weaker (after_item pattern) ds
    (subst (λ (p : List ℕ). fits (after_item p) ds ≡ true) (closed pattern h)
    (and_right (takes (after_stars pattern) d) (fits (after_item (after_stars pattern)) ds) e)) in
    or_right (here (after_item pattern) d ds) (fits (42 ∷ after_item pattern) ds)
    (or_each (here pattern d ds) (fits (42 ∷ pattern) ds) (fits (42 ∷ after_item pattern) ds ≡ true) first (later pattern b h k ds) s)

-- ... and so after the byte that it takes
pub later_on : (pattern : List ℕ) (b : ℕ) (bs : List ℕ) → is_open pattern ≡ false → takes pattern b ≡ true
    → fits (42 ∷ pattern) (b ∷ bs) ≡ true → fits (42 ∷ after_item pattern) bs ≡ true
later_on pattern b bs h k s =
    let first : here pattern b bs ≡ true → fits (42 ∷ after_item pattern) bs ≡ true =
    λ e. weaker (after_item pattern) bs
    (subst (λ (p : List ℕ). fits (after_item p) bs ≡ true) (closed pattern h)
    (and_right (takes (after_stars pattern) b) (fits (after_item (after_stars pattern)) bs) e)) in
    or_each (here pattern b bs) (fits (42 ∷ pattern) bs) (fits (42 ∷ after_item pattern) bs ≡ true) first (later pattern b h k bs) s

stepped : (pattern : List ℕ) (b : ℕ) (bs : List ℕ) → is_open pattern ≡ false → takes pattern b ≡ true → IsStep pattern (b ∷ bs) (after_item pattern) bs
stepped pattern b bs h k =
    record { here = steps pattern b bs h k; found = later_on pattern b bs h k; shorter = item_shorter pattern; fewer = omega arith }

pub stepped_at : (pattern text after bs : List ℕ) (b : ℕ) → text ≡ b ∷ bs → is_open pattern ≡ false → takes pattern b ≡ true → after ≡ after_item pattern
    → IsStep pattern text after bs
stepped_at pattern text after bs b t h k a =
    subst (λ (x : List ℕ). IsStep pattern x after bs) (sym t)
    (subst (λ (x : List ℕ). IsStep pattern (b ∷ bs) x bs) (sym a) (stepped pattern b bs h k))

-- the items before a star fit here, so what follows the star is looked for from there on
committed_at : (pattern text after rest : List ℕ) → fits pattern text ≡ fits (42 ∷ after) rest
    → (fits (42 ∷ pattern) text ≡ true → fits (42 ∷ 42 ∷ after) rest ≡ true) → fits (42 ∷ pattern) text ≡ fits (42 ∷ after) rest
committed_at pattern text after rest same found =
    same_truth (fits (42 ∷ pattern) text) (fits (42 ∷ after) rest) (λ h. sym (two_stars after rest) ∙ found h) (λ h. weaker pattern text (same ∙ h))

pub committed : (pattern text left after rest : List ℕ) → left ≡ 42 ∷ after → fits pattern text ≡ fits left rest
    → (fits (42 ∷ pattern) text ≡ true → fits (42 ∷ left) rest ≡ true) → fits (42 ∷ pattern) text ≡ fits (42 ∷ after) rest
committed pattern text left after rest is same found =
    let P : List ℕ → Type 0 = λ p. (fits pattern text ≡ fits p rest) × (fits (42 ∷ pattern) text ≡ true → fits (42 ∷ p) rest ≡ true) in
    let both : P (42 ∷ after) = subst P is (same, found) in
    committed_at pattern text after rest both.0 both.1

-- a place that doesn't serve is left out
pub missed : (pattern : List ℕ) (b : ℕ) (bs : List ℕ) → fits pattern (b ∷ bs) ≡ false → fits (42 ∷ pattern) (b ∷ bs) ≡ fits (42 ∷ pattern) bs
missed pattern b bs h =
    ap (λ (t : Bool). t || fits (42 ∷ pattern) bs) (left_off (here pattern b bs) (is_open pattern && fits pattern bs) h)
