-- Elements of lists, and what folds over the lines of a file give.
use Rattle.std.proofs.Common.{◌≡◌, ℕ, zero, suc, ◌≤◌, ◌<◌, Bool, true, false, cond, ◌||◌, List, [], ◌∷◌, ◌++◌, length, get_or, map, refl, ap, sym, ◌∙◌, subst, arith, ◌⊎◌, inl, inr, Option, Some, None}
use Rattle.std.specs.Prelude.{unwrap_or, filter}
use Rattle.std.specs.List.{list_any, flat_map, filter_map, cons_option, zip, AllZip, AllByRecursion}
use Rattle.std.proofs.lemmas.Bool.{or_parts, true≢false, false_from_ne_true, cases_Bool}
use Rattle.ballot_law.specs.Ordered.{repeats}
use Rattle.sentinel_conf.specs.Meaning.{last, greatest}
use Rattle.sentinel_conf.proofs.SetLemmas.{In, IsOrder, each_in, each_from}
use Rattle.ballot_law.proofs.Rising.{Rises}
use Rattle.sentinel_conf.proofs.OrderLemmas.{IsSame}

pub in_append_left : {X : Type 0} (x : X) (xs ys : List X) → In x xs → In x (xs ++ ys)
in_append_left x [] ys i = absurd i
in_append_left x (y ∷ xs) ys (inl e) = inl e
in_append_left x (y ∷ xs) ys (inr i) = inr (in_append_left x xs ys i)

pub in_append_right : {X : Type 0} (x : X) (xs ys : List X) → In x ys → In x (xs ++ ys)
in_append_right x [] ys i = i
in_append_right x (y ∷ xs) ys i = inr (in_append_right x xs ys i)

pub in_append_cases : {X : Type 0} (x : X) (xs ys : List X) → In x (xs ++ ys) → In x xs ⊎ In x ys
in_append_cases x [] ys i = inr i
in_append_cases x (y ∷ xs) ys (inl e) = inl (inl e)
in_append_cases x (y ∷ xs) ys (inr i) = elim (in_append_cases x xs ys i) as (λ _. In x (y ∷ xs) ⊎ In x ys) [ inl j ↦ inl (inr j) | inr j ↦ inr j ]

pub in_map : {X Y : Type 0} (f : X → Y) (x : X) (xs : List X) → In x xs → In (f x) (map f xs)
in_map f x [] i = absurd i
in_map f x (y ∷ xs) (inl e) = inl (ap f e)
in_map f x (y ∷ xs) (inr i) = inr (in_map f x xs i)

pub each_map : {X Y : Type 0} (f : X → Y) (P : Y → Type 0) (xs : List X) → ((x : X) → In x xs → P (f x)) → (y : Y) → In y (map f xs) → P y
each_map f P [] h y i = absurd i
each_map f P (x ∷ xs) h y (inl e) = subst P (sym e) (h x (inl refl))
each_map f P (x ∷ xs) h y (inr i) = each_map f P xs (λ z j. h z (inr j)) y i

pub in_flat_map : {X Y : Type 0} (f : X → List Y) (x : X) (y : Y) (xs : List X) → In x xs → In y (f x) → In y (flat_map f xs)
in_flat_map f x y [] i j = absurd i
in_flat_map f x y (z ∷ xs) (inl e) j = in_append_left y (f z) (flat_map f xs) (subst (λ w. In y (f w)) e j)
in_flat_map f x y (z ∷ xs) (inr i) j = in_append_right y (f z) (flat_map f xs) (in_flat_map f x y xs i j)

pub each_flat_map : {X Y : Type 0} (f : X → List Y) (P : Y → Type 0) (xs : List X) → ((x : X) → In x xs → (y : Y) → In y (f x) → P y) → (y : Y) → In y (flat_map f xs) → P y
each_flat_map f P [] h y i = absurd i
each_flat_map f P (x ∷ xs) h y i =
    elim (in_append_cases y (f x) (flat_map f xs) i) as (λ _. P y) [
      | inl j ↦ h x (inl refl) y j
      | inr j ↦ each_flat_map f P xs (λ z k. h z (inr k)) y j
    ]

pub filter_yes : {X : Type 0} (p : X → Bool) (y : X) (xs : List X) → p y ≡ true → filter p (y ∷ xs) ≡ y ∷ filter p xs
filter_yes p y xs e = ap (λ t. cond t (y ∷ filter p xs) (filter p xs)) e

pub filter_no : {X : Type 0} (p : X → Bool) (y : X) (xs : List X) → p y ≡ false → filter p (y ∷ xs) ≡ filter p xs
filter_no p y xs e = ap (λ t. cond t (y ∷ filter p xs) (filter p xs)) e

to_filter_by : {X : Type 0} (p : X → Bool) (x y : X) (xs : List X) (t : Bool) → p y ≡ t → p x ≡ true → (In x xs → In x (filter p xs)) → In x (y ∷ xs) → In x (filter p (y ∷ xs))
to_filter_by p x y xs true e h r (inl f) = subst (In x) (sym (filter_yes p y xs e)) (inl f)
to_filter_by p x y xs true e h r (inr i) = subst (In x) (sym (filter_yes p y xs e)) (inr (r i))
to_filter_by p x y xs false e h r (inl f) = absurd (true≢false (sym h ∙ ap p f ∙ e))
to_filter_by p x y xs false e h r (inr i) = subst (In x) (sym (filter_no p y xs e)) (r i)

pub to_filter : {X : Type 0} (p : X → Bool) (x : X) (xs : List X) → p x ≡ true → In x xs → In x (filter p xs)
to_filter p x [] h i = absurd i
to_filter p x (y ∷ xs) h i = to_filter_by p x y xs (p y) refl h (to_filter p x xs h) i

from_filter_by : {X : Type 0} (p : X → Bool) (x y : X) (xs : List X) (t : Bool) → p y ≡ t → (In x (filter p xs) → (p x ≡ true) × In x xs) → In x (filter p (y ∷ xs)) →
    (p x ≡ true) × In x (y ∷ xs)
from_filter_by p x y xs true e r i =
    let j : (x ≡ y) ⊎ In x (filter p xs) = subst (In x) (filter_yes p y xs e) i in
    elim j as (λ _. (p x ≡ true) × In x (y ∷ xs)) [ inl f ↦ (ap p f ∙ e, inl f) | inr k ↦ ((r k).0, inr (r k).1) ]
from_filter_by p x y xs false e r i = let k = r (subst (In x) (filter_no p y xs e) i) in (k.0, inr k.1)

pub from_filter : {X : Type 0} (p : X → Bool) (x : X) (xs : List X) → In x (filter p xs) → (p x ≡ true) × In x xs
from_filter p x [] i = absurd i
from_filter p x (y ∷ xs) i = from_filter_by p x y xs (p y) refl (from_filter p x xs) i

rises_filter_by : {X : Type 0} (before : X → X → Bool) (p : X → Bool) (y : X) (xs : List X) (t : Bool) → p y ≡ t → AllByRecursion (λ z. before y z ≡ true) xs →
    Rises before (filter p xs) → Rises before (filter p (y ∷ xs))
rises_filter_by before p y xs true e a r =
    subst (Rises before) (sym (filter_yes p y xs e))
    (each_from (λ z. before y z ≡ true) (filter p xs) (λ z i. each_in (λ z. before y z ≡ true) xs a z (from_filter p z xs i).1), r)
rises_filter_by before p y xs false e a r = subst (Rises before) (sym (filter_no p y xs e)) r

pub rises_filter : {X : Type 0} (before : X → X → Bool) (p : X → Bool) (xs : List X) → Rises before xs → Rises before (filter p xs)
rises_filter before p [] r = tt
rises_filter before p (y ∷ xs) r = rises_filter_by before p y xs (p y) refl r.0 (rises_filter before p xs r.1)

-- filter_map
in_cons_option : {Y : Type 0} (o : Option Y) (y : Y) (ys : List Y) → In y ys → In y (cons_option o ys)
in_cons_option None y ys i = i
in_cons_option (Some z) y ys i = inr i

at_cons_option : {Y : Type 0} (o : Option Y) (y : Y) (ys : List Y) → o ≡ Some y → In y (cons_option o ys)
at_cons_option None y ys e = cc
at_cons_option (Some z) y ys e = let f : y ≡ z = cc in inl f

pub to_filter_map : {X Y : Type 0} (h : X → Option Y) (x : X) (y : Y) (xs : List X) → In x xs → h x ≡ Some y → In y (filter_map h xs)
to_filter_map h x y [] i e = absurd i
to_filter_map h x y (z ∷ xs) (inl f) e = at_cons_option (h z) y (filter_map h xs) (ap h (sym f) ∙ e)
to_filter_map h x y (z ∷ xs) (inr i) e = in_cons_option (h z) y (filter_map h xs) (to_filter_map h x y xs i e)

cases_cons_option : {Y : Type 0} (o : Option Y) (y : Y) (ys : List Y) → In y (cons_option o ys) → (o ≡ Some y) ⊎ In y ys
cases_cons_option None y ys i = inr i
cases_cons_option (Some z) y ys (inl e) = inl (ap Some (sym e))
cases_cons_option (Some z) y ys (inr i) = inr i

pub each_filter_map : {X Y : Type 0} (h : X → Option Y) (P : Y → Type 0) (xs : List X) → ((x : X) → In x xs → (y : Y) → h x ≡ Some y → P y) → (y : Y) → In y (filter_map h xs) → P y
each_filter_map h P [] a y i = absurd i
each_filter_map h P (x ∷ xs) a y i =
    elim (cases_cons_option (h x) y (filter_map h xs) i) as (λ _. P y) [
      | inl e ↦ a x (inl refl) y e
      | inr j ↦ each_filter_map h P xs (λ z k. a z (inr k)) y j
    ]

pub in_filter_map : {X Y : Type 0} (h : X → Option Y) (y : Y) (xs : List X) → In y (filter_map h xs) → (z : X) × In z xs × (h z ≡ Some y)
in_filter_map h y [] i = absurd i
in_filter_map {X} h y (x ∷ xs) i =
    elim (cases_cons_option (h x) y (filter_map h xs) i) as (λ _. (z : X) × In z (x ∷ xs) × (h z ≡ Some y)) [
      | inl e ↦ (x, inl refl, e)
      | inr j ↦ let r = in_filter_map h y xs j in (r.0, inr r.1, r.2)
    ]

-- what the last gives, where all that give anything give the same
given_by : {Y : Type 0} (o : Option Y) (d v : Y) → ((w : Y) → o ≡ Some w → w ≡ v) → d ≡ v → unwrap_or o d ≡ v
given_by None d v a e = e
given_by (Some w) d v a e = a w refl

last_stays : {X Y : Type 0} (h : X → Option Y) (d v : Y) (xs : List X) → ((x : X) → In x xs → (w : Y) → h x ≡ Some w → w ≡ v) → d ≡ v → last h d xs ≡ v
last_stays h d v [] a e = e
last_stays h d v (x ∷ xs) a e = last_stays h (unwrap_or (h x) d) v xs (λ y i. a y (inr i)) (given_by (h x) d v (a x (inl refl)) e)

pub last_is : {X Y : Type 0} (h : X → Option Y) (d v : Y) (xs : List X) → ((x : X) → In x xs → (w : Y) → h x ≡ Some w → w ≡ v) → (x : X) → In x xs → h x ≡ Some v → last h d xs ≡ v
last_is h d v [] a x i e = absurd i
last_is h d v (y ∷ xs) a x (inl f) e = last_stays h (unwrap_or (h y) d) v xs (λ z i. a z (inr i)) (ap (λ o. unwrap_or o d) (ap h (sym f) ∙ e))
last_is h d v (y ∷ xs) a x (inr i) e = last_is h (unwrap_or (h y) d) v xs (λ z j. a z (inr j)) x i e

pub greatest-le : (n : ℕ) (ns : List ℕ) → ((m : ℕ) → In m ns → m ≤ n) → greatest ns ≤ n
greatest-le n [] h = omega arith
greatest-le n (m ∷ ns) h = let a : m ≤ n = h m (inl refl) in let b : greatest ns ≤ n = greatest-le n ns (λ k i. h k (inr i)) in omega arith

-- no element is the same as a later one
abbrev pub Apart : {X : Type 0} → (X → X → Bool) → List X → Type 0
Apart same [] = Unit {0}
Apart same (x ∷ xs) = AllByRecursion (λ y. same y x ≡ false) xs × Apart same xs

pub apart_append : {X : Type 0} (same : X → X → Bool) (xs ys : List X) → Apart same xs → Apart same ys → ((x y : X) → In x xs → In y ys → same y x ≡ false) → Apart same (xs ++ ys)
apart_append same [] ys a b h = b
apart_append same (x ∷ xs) ys a b h = (
  each_from (λ y. same y x ≡ false) (xs ++ ys) (λ y i.
      elim (in_append_cases y xs ys i) as (λ _. same y x ≡ false) [
        | inl j ↦ each_in (λ y. same y x ≡ false) xs a.0 y j
        | inr j ↦ h x y (inl refl) j
      ]),
  apart_append same xs ys a.1 b (λ z y i j. h z y (inr i) j),
)

pub apart_map : {X Y : Type 0} (f : X → Y) (same : Y → Y → Bool) (test : X → X → Bool) (xs : List X) → ((x y : X) → test y x ≡ false → same (f y) (f x) ≡ false) → Apart test xs →
    Apart same (map f xs)
apart_map f same test [] h a = tt
apart_map f same test (x ∷ xs) h a = (
  each_from (λ y. same y (f x) ≡ false) (map f xs) (each_map f (λ y. same y (f x) ≡ false) xs (λ y i. h x y (each_in (λ y. test y x ≡ false) xs a.0 y i))),
  apart_map f same test xs h a.1,
)

pub apart_rises : {X : Type 0} (before same : X → X → Bool) (o : IsOrder before) (s : IsSame same) (xs : List X) → Rises before xs → Apart same xs
apart_rises before same o s [] r = tt
apart_rises before same o s (x ∷ xs) r = (
  each_from (λ y. same y x ≡ false) xs (λ y i. false_from_ne_true (same y x) (λ e.
      true≢false (sym (each_in (λ y. before x y ≡ true) xs r.0 y i) ∙ ap (before x) (s.equal y x e) ∙ o.strict.irreflexive x))),
  apart_rises before same o s xs r.1,
)

pub none_any : {X : Type 0} (p : X → Bool) (xs : List X) → list_any p xs ≡ false → (x : X) → In x xs → p x ≡ false
none_any p [] h x i = absurd i
none_any p (y ∷ xs) h x (inl e) = ap p e ∙ (or_parts (p y) (list_any p xs) h).0
none_any p (y ∷ xs) h x (inr i) = none_any p xs (or_parts (p y) (list_any p xs) h).1 x i

pub any_some : {X : Type 0} (p : X → Bool) (xs : List X) (x : X) → In x xs → p x ≡ true → list_any p xs ≡ true
any_some p xs x i e = elim (cases_Bool (list_any p xs)) as (λ _. list_any p xs ≡ true) [ inl t ↦ t | inr f ↦ absurd (true≢false (sym e ∙ none_any p xs f x i)) ]

pub apart_from_repeats : {X : Type 0} (same : X → X → Bool) (s : IsSame same) (xs : List X) → repeats same xs ≡ false → Apart same xs
apart_from_repeats same s [] h = tt
apart_from_repeats same s (x ∷ xs) h =
    let both = or_parts (list_any (same x) xs) (repeats same xs) h in (
      each_from (λ y. same y x ≡ false) xs (λ y i. false_from_ne_true (same y x) (λ e.
          true≢false (sym (s.of_equal x) ∙ ap (same x) (sym (s.equal y x e)) ∙ none_any (same x) xs both.0 y i))),
      apart_from_repeats same s xs both.1,
    )

any_key : {X K : Type 0} (key : X → K) (p : K → Bool) (xs : List X) → list_any p (map key xs) ≡ list_any (λ x. p (key x)) xs
any_key key p [] = refl
any_key key p (x ∷ xs) = ap (λ t. p (key x) || t) (any_key key p xs)

pub repeats_key : {X K : Type 0} (key : X → K) (same : K → K → Bool) (xs : List X) → repeats same (map key xs) ≡ repeats (λ x y. same (key x) (key y)) xs
repeats_key key same [] = refl
repeats_key key same (x ∷ xs) =
    ap (λ t. t || repeats same (map key xs)) (any_key key (same (key x)) xs) ∙ ap (λ t. list_any (λ y. same (key x) (key y)) xs || t) (repeats_key key same xs)

pub apart_back : {X K : Type 0} (key : X → K) (same : K → K → Bool) (xs : List X) → Apart same (map key xs) → Apart (λ x y. same (key x) (key y)) xs
apart_back key same [] a = tt
apart_back key same (x ∷ xs) a =
    (each_from (λ y. same (key y) (key x) ≡ false) xs (λ y i. each_in (λ k. same k (key x) ≡ false) (map key xs) a.0 (key y) (in_map key y xs i)), apart_back key same xs a.1)

-- two elements with one key are one, where the keys differ
pub one_of_key : {X K : Type 0} (key : X → K) (same : K → K → Bool) (s : IsSame same) (xs : List X) → Apart same (map key xs) → (x y : X) → In x xs → In y xs → key x ≡ key y →
    x ≡ y
one_of_key key same s [] a x y i j e = absurd i
one_of_key key same s (z ∷ xs) a x y (inl f) (inl g) e = f ∙ sym g
one_of_key key same s (z ∷ xs) a x y (inl f) (inr j) e =
    absurd (true≢false (sym (s.of_equal (key z)) ∙ ap (λ k. same k (key z)) (ap key (sym f) ∙ e) ∙
    each_in (λ k. same k (key z) ≡ false) (map key xs) a.0 (key y) (in_map key y xs j)))
one_of_key key same s (z ∷ xs) a x y (inr i) (inl g) e =
    absurd (true≢false (sym (s.of_equal (key z)) ∙ ap (λ k. same k (key z)) (ap key (sym g) ∙ sym e) ∙
    each_in (λ k. same k (key z) ≡ false) (map key xs) a.0 (key x) (in_map key x xs i)))
one_of_key key same s (z ∷ xs) a x y (inr i) (inr j) e = one_of_key key same s xs a.1 x y i j e

apart_filter_by : {X : Type 0} (same : X → X → Bool) (p : X → Bool) (y : X) (xs : List X) (t : Bool) → p y ≡ t → AllByRecursion (λ z. same z y ≡ false) xs →
    Apart same (filter p xs) → Apart same (filter p (y ∷ xs))
apart_filter_by same p y xs true e a r =
    subst (Apart same) (sym (filter_yes p y xs e))
    (each_from (λ z. same z y ≡ false) (filter p xs) (λ z i. each_in (λ z. same z y ≡ false) xs a z (from_filter p z xs i).1), r)
apart_filter_by same p y xs false e a r = subst (Apart same) (sym (filter_no p y xs e)) r

pub apart_filter : {X : Type 0} (same : X → X → Bool) (p : X → Bool) (xs : List X) → Apart same xs → Apart same (filter p xs)
apart_filter same p [] a = tt
apart_filter same p (y ∷ xs) a = apart_filter_by same p y xs (p y) refl a.0 (apart_filter same p xs a.1)

-- the elements of two lists side by side
pub record Zipped {A B : Type 0} (R : A → B → Type 0) (xs : List A) (ys : List B) : Type 0 where
  pub lefts : map (λ (p : A × B). p.0) (zip xs ys) ≡ xs
  pub rights : map (λ (p : A × B). p.1) (zip xs ys) ≡ ys
  pub each : (p : A × B) → In p (zip xs ys) → R p.0 p.1

each_zip : {A B : Type 0} (R : A → B → Type 0) (x : A) (y : B) (ps : List (A × B)) → R x y → ((p : A × B) → In p ps → R p.0 p.1) → (p : A × B) → In p ((x, y) ∷ ps) → R p.0 p.1
each_zip {A} {B} R x y ps r h p (inl e) = let P : A × B → Type 0 = λ q. R q.0 q.1 in subst P (sym e) r
each_zip R x y ps r h p (inr i) = h p i

pub zipped : {A B : Type 0} (R : A → B → Type 0) (xs : List A) (ys : List B) → AllZip R xs ys → Zipped R xs ys
zipped R [] [] a = record { lefts = refl; rights = refl; each = λ p i. absurd i }
zipped R [] (y ∷ ys) a = absurd a
zipped R (x ∷ xs) [] a = absurd a
zipped R (x ∷ xs) (y ∷ ys) a =
    let rest = zipped R xs ys a.1 in
    record { lefts = ap (λ t. x ∷ t) rest.lefts; rights = ap (λ t. y ∷ t) rest.rights; each = each_zip R x y (zip xs ys) a.0 rest.each }

pub in_from_at : {X : Type 0} (x d : X) (xs : List X) (k : ℕ) → k < length xs → get_or xs k d ≡ x → In x xs
in_from_at x d [] k l e = absurd (omega arith)
in_from_at x d (y ∷ xs) zero l e = inl (sym e)
in_from_at x d (y ∷ xs) (suc k) l e = inr (in_from_at x d xs k (omega arith) e)
