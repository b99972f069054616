-- Lists in order, each element once: two of the same elements are equal.
use Rattle.std.proofs.Common.{◌≡◌, Bool, true, false, List, [], ◌∷◌, refl, sym, ◌∙◌, subst, ◌⊎◌, inl, inr}
use Rattle.std.specs.List.{AllByRecursion}
use Rattle.std.proofs.lemmas.Bool.{true≢false}
use Rattle.ballot_law.specs.Ordered.{add, in_order}
use Rattle.ballot_law.proofs.Placing.{add_at, add_before, add_tied}
use Rattle.ballot_law.proofs.Rising.{IsStrict, Rises, in_order_rises}

-- a strict order in which only equal elements tie
pub record IsOrder {X : Type 0} (before : X → X → Bool) : Type 0 where
  pub strict : IsStrict before
  pub tied : (x y : X) → before x y ≡ false → before y x ≡ false → x ≡ y

abbrev pub In : {X : Type 0} → X → List X → Type 0
In x [] = ⊥
In x (y ∷ ys) = (x ≡ y) ⊎ In x ys

pub each_in : {X : Type 0} (P : X → Type 0) (xs : List X) → AllByRecursion P xs → (x : X) → In x xs → P x
each_in P [] h x i = absurd i
each_in P (y ∷ ys) h x (inl e) = subst P (sym e) h.0
each_in P (y ∷ ys) h x (inr i) = each_in P ys h.1 x i

pub each_from : {X : Type 0} (P : X → Type 0) (xs : List X) → ((x : X) → In x xs → P x) → AllByRecursion P xs
each_from P [] h = tt
each_from P (y ∷ ys) h = (h y (inl refl), each_from P ys (λ x i. h x (inr i)))

module _ {X : Type 0} (before : X → X → Bool) where
  -- what stands in the list after an addition
  abbrev Adds : X → List X → List X → Type 0
  Adds x ys zs = ((z : X) → In z zs → (z ≡ x) ⊎ In z ys) × ((z : X) → (z ≡ x) ⊎ In z ys → In z zs)

  front_adds : (x : X) (ys : List X) → Adds x ys (x ∷ ys)
  front_adds x ys = ((λ z i. i), (λ z i. i))

  later : (z x y : X) (ys : List X) → (z ≡ x) ⊎ In z ys → (z ≡ x) ⊎ In z (y ∷ ys)
  later z x y ys (inl e) = inl e
  later z x y ys (inr i) = inr (inr i)

  swapped : (x y : X) (ys zs : List X) → Adds x ys zs → (z : X) → In z (y ∷ zs) → (z ≡ x) ⊎ In z (y ∷ ys)
  swapped x y ys zs a z (inl e) = inr (inl e)
  swapped x y ys zs a z (inr i) = later z x y ys (a.0 z i)

  swapped_back : (x y : X) (ys zs : List X) → Adds x ys zs → (z : X) → (z ≡ x) ⊎ In z (y ∷ ys) → In z (y ∷ zs)
  swapped_back x y ys zs a z (inl e) = inr (a.1 z (inl e))
  swapped_back x y ys zs a z (inr (inl e)) = inl e
  swapped_back x y ys zs a z (inr (inr i)) = inr (a.1 z (inr i))

  behind_adds : (x y : X) (ys zs : List X) → Adds x ys zs → Adds x (y ∷ ys) (y ∷ zs)
  behind_adds x y ys zs a = (swapped x y ys zs a, swapped_back x y ys zs a)

  there_back : (x y : X) (ys : List X) → x ≡ y → (z : X) → (z ≡ x) ⊎ In z (y ∷ ys) → In z (y ∷ ys)
  there_back x y ys e z (inl f) = inl (f ∙ e)
  there_back x y ys e z (inr i) = i

  there_adds : (x y : X) (ys : List X) → x ≡ y → Adds x (y ∷ ys) (y ∷ ys)
  there_adds x y ys e = ((λ z i. inr i), there_back x y ys e)

  module _ (o : IsOrder before) where
    add_adds_by : (x y : X) (ys : List X) (s t : Bool) → before y x ≡ s → before x y ≡ t → Adds x ys (add before x ys) → Adds x (y ∷ ys) (add before x (y ∷ ys))
    add_adds_by x y ys true t e f a = subst (Adds x (y ∷ ys)) (sym (add_at before x y ys e)) (behind_adds x y ys (add before x ys) a)
    add_adds_by x y ys false true e f a = subst (Adds x (y ∷ ys)) (sym (add_before before x y ys e f)) (front_adds x (y ∷ ys))
    add_adds_by x y ys false false e f a = subst (Adds x (y ∷ ys)) (sym (add_tied before x y ys e f)) (there_adds x y ys (o.tied x y f e))

    add_adds : (x : X) (ys : List X) → Adds x ys (add before x ys)
    add_adds x [] = front_adds x []
    add_adds x (y ∷ ys) = add_adds_by x y ys (before y x) (before x y) refl refl (add_adds x ys)

    in_cases : (x : X) (xs ys : List X) → ((z : X) → In z xs → In z ys) → (z : X) → (z ≡ x) ⊎ In z xs → (z ≡ x) ⊎ In z ys
    in_cases x xs ys h z (inl e) = inl e
    in_cases x xs ys h z (inr i) = inr (h z i)

    pub from_in_order : (xs : List X) (z : X) → In z (in_order before xs) → In z xs
    from_in_order [] z i = absurd i
    from_in_order (x ∷ xs) z i = in_cases x (in_order before xs) xs (from_in_order xs) z ((add_adds x (in_order before xs)).0 z i)

    pub to_in_order : (xs : List X) (z : X) → In z xs → In z (in_order before xs)
    to_in_order [] z i = absurd i
    to_in_order (x ∷ xs) z i = (add_adds x (in_order before xs)).1 z (in_cases x xs (in_order before xs) (to_in_order xs) z i)

    not_above : (x : X) (ys : List X) → AllByRecursion (λ y. before x y ≡ true) ys → In x ys → ⊥
    not_above x ys h i = true≢false (sym (each_in (λ y. before x y ≡ true) ys h x i) ∙ o.strict.irreflexive x)

    heads_by : (x y : X) (xs ys : List X) → Rises before (x ∷ xs) → Rises before (y ∷ ys) → (x ≡ y) ⊎ In x ys → (y ≡ x) ⊎ In y xs → x ≡ y
    heads_by x y xs ys r s (inl e) j = e
    heads_by x y xs ys r s (inr i) (inl e) = sym e
    heads_by x y xs ys r s (inr i) (inr j) =
        absurd (true≢false (sym (o.strict.transitive x y x (each_in (λ z. before x z ≡ true) xs r.0 y j) (each_in (λ z. before y z ≡ true) ys s.0 x i)) ∙ o.strict.irreflexive x))

    tail_in : (x y : X) (xs ys : List X) → Rises before (x ∷ xs) → x ≡ y → ((z : X) → In z (x ∷ xs) → In z (y ∷ ys)) → (z : X) → In z xs → In z ys
    tail_in x y xs ys r e h z i =
        elim (h z (inr i)) as (λ _. In z ys) [
          | inl f ↦ absurd (not_above x xs r.0 (subst (λ w. In w xs) (f ∙ sym e) i))
          | inr j ↦ j
        ]

    pub same_elements : (xs ys : List X) → Rises before xs → Rises before ys → ((z : X) → In z xs → In z ys) → ((z : X) → In z ys → In z xs) → xs ≡ ys
    same_elements [] [] r s h g = refl
    same_elements [] (y ∷ ys) r s h g = absurd (g y (inl refl))
    same_elements (x ∷ xs) [] r s h g = absurd (h x (inl refl))
    same_elements (x ∷ xs) (y ∷ ys) r s h g =
        let e : x ≡ y = heads_by x y xs ys r s (h x (inl refl)) (g y (inl refl)) in
        let rest : xs ≡ ys = same_elements xs ys r.1 s.1 (tail_in x y xs ys r e h) (tail_in y x ys xs s (sym e) g) in
        cc

    -- the elements of a list in order, put in order
    pub in_order_is : (xs ys : List X) → Rises before ys → ((z : X) → In z xs → In z ys) → ((z : X) → In z ys → In z xs) → in_order before xs ≡ ys
    in_order_is xs ys r h g =
        same_elements (in_order before xs) ys (in_order_rises before o.strict xs) r (λ z i. h z (from_in_order xs z i)) (λ z i. to_in_order xs z (g z i))
