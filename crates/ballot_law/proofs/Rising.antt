-- Lists in order rise, so no two of their elements tie.
use Rattle.std.proofs.Common.{◌≡◌, ℕ, zero, suc, ◌<◌, Bool, true, false, ◌&&◌, ◌||◌, ◌==◌, cond, nat_lt, Ordering, Less, Equal, Greater, eqb, ltb, List, [], ◌∷◌, length, get_or, refl, ap, sym, ◌∙◌, subst, arith, ◌⊎◌, inl, inr}
use Rattle.std.specs.List.{AllByRecursion}
use Rattle.std.specs.Cmp.Lexicographic.{slice_cmp}
use Rattle.std.specs.Ordering.{is_lt, nat_cmp, ordering_then}
use Rattle.std.proofs.lemmas.Bool.{eqb-true, and_parts, and_from, and_right, or_cases, or_left, or_right, or_from, true≢false, cases_order}
use Rattle.std.proofs.lemmas.Bool.Decides.{nat_tests}
use Rattle.ballot_law.specs.Ordered.{add, in_order}
use Rattle.ballot_law.specs.Orders.{id_before, bytes_before}
use Rattle.ballot_law.proofs.Placing.{add_at, add_before, add_tied}

pub record IsStrict {X : Type 0} (before : X → X → Bool) : Type 0 where
  pub irreflexive : (x : X) → before x x ≡ false
  pub transitive : (x y z : X) → before x y ≡ true → before y z ≡ true → before x z ≡ true

-- each element stands before all that follow
abbrev pub Rises : {X : Type 0} → (X → X → Bool) → List X → Type 0
Rises before [] = Unit {0}
Rises before (x ∷ xs) = AllByRecursion (λ y. before x y ≡ true) xs × Rises before xs

module _ {X : Type 0} (before : X → X → Bool) (o : IsStrict before) where
  abbrev Above : X → List X → Type 0
  Above y xs = AllByRecursion (λ z. before y z ≡ true) xs

  above_more : (x y : X) (ys : List X) → before x y ≡ true → Above y ys → Above x ys
  above_more x y [] e h = tt
  above_more x y (z ∷ zs) e h = (o.transitive x y z e h.0, above_more x y zs e h.1)

  above_by : (y x z : X) (zs : List X) (s t : Bool) → before z x ≡ s → before x z ≡ t → before y x ≡ true → Above y (z ∷ zs) → Above y (add before x zs) →
      Above y (add before x (z ∷ zs))
  above_by y x z zs true t e f g h more = subst (Above y) (sym (add_at before x z zs e)) (h.0, more)
  above_by y x z zs false true e f g h more = subst (Above y) (sym (add_before before x z zs e f)) (g, h)
  above_by y x z zs false false e f g h more = subst (Above y) (sym (add_tied before x z zs e f)) h

  above_added : (y x : X) (zs : List X) → before y x ≡ true → Above y zs → Above y (add before x zs)
  above_added y x [] g h = (g, tt)
  above_added y x (z ∷ zs) g h = above_by y x z zs (before z x) (before x z) refl refl g h (above_added y x zs g h.1)

  rises_by : (x y : X) (ys : List X) (s t : Bool) → before y x ≡ s → before x y ≡ t → Rises before (y ∷ ys) → Rises before (add before x ys) → Rises before (add before x (y ∷ ys))
  rises_by x y ys true t e f r more = subst (Rises before) (sym (add_at before x y ys e)) (above_added y x ys e r.0, more)
  rises_by x y ys false true e f r more = subst (Rises before) (sym (add_before before x y ys e f)) ((f, above_more x y ys f r.0), r)
  rises_by x y ys false false e f r more = subst (Rises before) (sym (add_tied before x y ys e f)) r

  add_rises : (x : X) (ys : List X) → Rises before ys → Rises before (add before x ys)
  add_rises x [] r = (tt, tt)
  add_rises x (y ∷ ys) r = rises_by x y ys (before y x) (before x y) refl refl r (add_rises x ys r.1)

  pub in_order_rises : (xs : List X) → Rises before (in_order before xs)
  in_order_rises [] = tt
  in_order_rises (x ∷ xs) = add_rises x (in_order before xs) (in_order_rises xs)

  above_at : (y : X) (xs : List X) (d : X) (i : ℕ) → Above y xs → i < length xs → before y (get_or xs i d) ≡ true
  above_at y [] d i h l = absurd (omega arith)
  above_at y (x ∷ xs) d zero h l = h.0
  above_at y (x ∷ xs) d (suc i) h l = above_at y xs d i h.1 (omega arith)

  pub rises_at : (xs : List X) (d : X) (i j : ℕ) → Rises before xs → i < j → j < length xs → before (get_or xs i d) (get_or xs j d) ≡ true
  rises_at [] d i j r l k = absurd (omega arith)
  rises_at (x ∷ xs) d i zero r l k = absurd (omega arith)
  rises_at (x ∷ xs) d zero (suc j) r l k = above_at x xs d j r.0 (omega arith)
  rises_at (x ∷ xs) d (suc i) (suc j) r l k = rises_at xs d i j r.1 (omega arith) (omega arith)

-- by a key
module _ {X K : Type 0} (key : X → K) (before : K → K → Bool) (o : IsStrict before) where
  pub strict_by : IsStrict (λ (a b : X). before (key a) (key b))
  strict_by = record {
    irreflexive = λ x. o.irreflexive (key x);
    transitive = λ x y z e f. o.transitive (key x) (key y) (key z) e f;
  }

  never_tied : (a b : K) → before a b ≡ true → a ≡ b → ⊥
  never_tied a b e f = true≢false (sym e ∙ ap (before a) (sym f) ∙ o.irreflexive a)

  apart : (xs : List X) (d : X) (i j : ℕ) → Rises (λ (a b : X). before (key a) (key b)) xs → i < length xs → j < length xs → key (get_or xs i d) ≡ key (get_or xs j d) →
      (i ≡ j) ⊎ ((i < j) ⊎ (j < i)) → i ≡ j
  apart xs d i j r k l e (inl same) = same
  apart xs d i j r k l e (inr (inl less)) =
      absurd (never_tied (key (get_or xs i d)) (key (get_or xs j d)) (rises_at (λ (a b : X). before (key a) (key b)) strict_by xs d i j r less l) e)
  apart xs d i j r k l e (inr (inr more)) =
      absurd (never_tied (key (get_or xs j d)) (key (get_or xs i d)) (rises_at (λ (a b : X). before (key a) (key b)) strict_by xs d j i r more k) (sym e))

  -- no two elements of a list in order have one key
  pub in_order_apart : (xs : List X) (d : X) (i j : ℕ) → i < length (in_order (λ (a b : X). before (key a) (key b)) xs) →
      j < length (in_order (λ (a b : X). before (key a) (key b)) xs)
      → key (get_or (in_order (λ (a b : X). before (key a) (key b)) xs) i d) ≡ key (get_or (in_order (λ (a b : X). before (key a) (key b)) xs) j d) → i ≡ j
  in_order_apart xs d i j k l e =
      apart (in_order (λ (a b : X). before (key a) (key b)) xs) d i j (in_order_rises (λ (a b : X). before (key a) (key b)) strict_by xs) k l e (cases_order i j)

-- the order of run ids, and that of texts
pub less_not : (x : ℕ) → ltb x x ≡ false
less_not x = grind (arith, nat_tests)

pub less_on : (x y z : ℕ) → ltb x y ≡ true → ltb y z ≡ true → ltb x z ≡ true
less_on x y z h k = grind (arith, nat_tests)

-- by a number, and where it is the same by more
module _ (x y z : ℕ) (p q r : Bool) where
  pub first_then_on : (p ≡ true → q ≡ true → r ≡ true) → (ltb x y ≡ true) ⊎ ((eqb x y && p) ≡ true) → (ltb y z ≡ true) ⊎ ((eqb y z && q) ≡ true) →
      (ltb x z || (eqb x z && r)) ≡ true
  first_then_on t (inl h) (inl k) = or_left (ltb x z) (eqb x z && r) (less_on x y z h k)
  first_then_on t (inl h) (inr k) =
      let both = and_parts (eqb y z) q k in
      or_left (ltb x z) (eqb x z && r) (ap (ltb x) (sym (eqb-true y z both.0)) ∙ h)
  first_then_on t (inr h) (inl k) =
      let both = and_parts (eqb x y) p h in
      or_left (ltb x z) (eqb x z && r) (ap (λ a. ltb a z) (eqb-true x y both.0) ∙ k)
  first_then_on t (inr h) (inr k) =
      let one = and_parts (eqb x y) p h in
      let two = and_parts (eqb y z) q k in
      or_right (ltb x z) (eqb x z && r) (and_from (eqb x z) r (ap (λ a. eqb a z) (eqb-true x y one.0) ∙ two.0) (t one.1 two.1))

pub id_strict : IsStrict id_before
id_strict = record {
  irreflexive = λ a. or_from (ltb a.hi a.hi) (eqb a.hi a.hi && ltb a.lo a.lo) (less_not a.hi) (and_right (eqb a.hi a.hi) (ltb a.lo a.lo) (less_not a.lo));
  transitive = λ a b c h k.
      first_then_on a.hi b.hi c.hi (ltb a.lo b.lo) (ltb b.lo c.lo) (ltb a.lo c.lo) (less_on a.lo b.lo c.lo)
      (or_cases (ltb a.hi b.hi) (eqb a.hi b.hi && ltb a.lo b.lo) h) (or_cases (ltb b.hi c.hi) (eqb b.hi c.hi && ltb b.lo c.lo) k);
}

bytes_not : (xs : List ℕ) → bytes_before xs xs ≡ false
bytes_not [] = refl
bytes_not (x ∷ xs) = or_from (ltb x x) (eqb x x && bytes_before xs xs) (less_not x) (and_right (eqb x x) (bytes_before xs xs) (bytes_not xs))

bytes_on : (xs ys zs : List ℕ) → bytes_before xs ys ≡ true → bytes_before ys zs ≡ true → bytes_before xs zs ≡ true
bytes_on [] [] zs h k = cc
bytes_on [] (y ∷ ys) [] h k = cc
bytes_on [] (y ∷ ys) (z ∷ zs) h k = refl
bytes_on (x ∷ xs) [] zs h k = cc
bytes_on (x ∷ xs) (y ∷ ys) [] h k = cc
bytes_on (x ∷ xs) (y ∷ ys) (z ∷ zs) h k =
    first_then_on x y z (bytes_before xs ys) (bytes_before ys zs) (bytes_before xs zs) (bytes_on xs ys zs)
    (or_cases (ltb x y) (eqb x y && bytes_before xs ys) h) (or_cases (ltb y z) (eqb y z && bytes_before ys zs) k)

pub bytes_strict : IsStrict bytes_before
bytes_strict = record { irreflexive = bytes_not; transitive = bytes_on }

-- the greater number first, and where it is the same by more
abbrev pub lex : (p q : ℕ) → Bool → Bool
lex p q inner = cond (eqb p q) inner (ltb q p)

pub lex_trans : (p q r : ℕ) (x y z : Bool) → (x ≡ true → y ≡ true → z ≡ true) → lex p q x ≡ true → lex q r y ≡ true → lex p r z ≡ true
lex_trans p q r x y z inner h k = grind (arith, nat_tests)

pub lex_irrefl : (p : ℕ) (x : Bool) → x ≡ false → lex p p x ≡ false
lex_irrefl p x h = grind (arith, nat_tests)

-- std's order of two lists of bytes

first_before : (a b : Bool) (rest : Ordering) → is_lt (ordering_then (cond a Less (cond b Equal Greater)) rest) ≡ (a || (b && is_lt rest))
first_before true b rest = refl
first_before false true rest = refl
first_before false false rest = refl

pub slice_before : (xs ys : List ℕ) → is_lt (slice_cmp nat_cmp xs ys) ≡ bytes_before xs ys
slice_before [] [] = refl
slice_before [] (y ∷ ys) = refl
slice_before (x ∷ xs) [] = refl
slice_before (x ∷ xs) (y ∷ ys) =
    first_before (nat_lt x y) (x == y) (slice_cmp nat_cmp xs ys) ∙ ap (λ t. nat_lt x y || ((x == y) && t)) (slice_before xs ys)
