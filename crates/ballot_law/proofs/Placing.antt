-- Where `add` puts an element, and steps of the loops that put lists in order.
use Rattle.std.proofs.Common.{◌≡◌, ℕ, zero, suc, ◌+◌, ◌<◌, ◌≤◌, Bool, true, false, ◌||◌, List, [], ◌∷◌, ◌++◌, length, get_or, take, drop, refl, ap, sym, ◌∙◌, arith, add-one, subst}
use Rattle.std.specs.List.{list_any, All}
use Rattle.std.proofs.lemmas.List.Elements.{All-nil, All-cons, All-head, All-tail}
use Rattle.std.proofs.lemmas.Bool.{or_left}
use Rattle.std.proofs.Math.Seq.{drop-cons}
use Rattle.std.proofs.lemmas.List.{take-append-drop}
use Rattle.ballot_law.specs.Ordered.{add, in_order, repeats}

module _ {X : Type 0} (before : X → X → Bool) where
  pub add_at : (x y : X) (ys : List X) → before y x ≡ true → add before x (y ∷ ys) ≡ y ∷ add before x ys
  add_at x y ys e = ap (λ t. elim t as (λ _. List X) [ true ↦ y ∷ add before x ys | false ↦ elim (before x y) as (λ _. List X) [ true ↦ x ∷ y ∷ ys | false ↦ y ∷ ys ] ]) e

  pub add_before : (x y : X) (ys : List X) → before y x ≡ false → before x y ≡ true → add before x (y ∷ ys) ≡ x ∷ y ∷ ys
  add_before x y ys e f =
      ap (λ t. elim t as (λ _. List X) [ true ↦ y ∷ add before x ys | false ↦ elim (before x y) as (λ _. List X) [ true ↦ x ∷ y ∷ ys | false ↦ y ∷ ys ] ]) e
      ∙ ap (λ t. elim t as (λ _. List X) [ true ↦ x ∷ y ∷ ys | false ↦ y ∷ ys ]) f

  pub add_tied : (x y : X) (ys : List X) → before y x ≡ false → before x y ≡ false → add before x (y ∷ ys) ≡ y ∷ ys
  add_tied x y ys e f =
      ap (λ t. elim t as (λ _. List X) [ true ↦ y ∷ add before x ys | false ↦ elim (before x y) as (λ _. List X) [ true ↦ x ∷ y ∷ ys | false ↦ y ∷ ys ] ]) e
      ∙ ap (λ t. elim t as (λ _. List X) [ true ↦ x ∷ y ∷ ys | false ↦ y ∷ ys ]) f

  pub placed_tied : (x d : X) (list : List X) (i : ℕ) → i < length list → before (get_or list i d) x ≡ false → before x (get_or list i d) ≡ false
      → add before x list ≡ take i list ++ add before x (drop i list) → add before x list ≡ list
  placed_tied x d list i l e f h =
      let y : X = get_or list i d in
      let ys : List X = drop (suc i) list in
      h
      ∙ ap (λ t. take i list ++ add before x t) (drop-cons list i d l)
      ∙ ap (λ t. take i list ++ t) (add_tied x y ys e f)
      ∙ ap (λ t. take i list ++ t) (sym (drop-cons list i d l))
      ∙ take-append-drop i list

  -- the elements of the first list, from its end on, put into the second
  abbrev pub onto : List X → List X → List X
  onto [] list = list
  onto (x ∷ xs) list = add before x (onto xs list)

  pub in_order_is_onto : (xs : List X) → in_order before xs ≡ onto xs []
  in_order_is_onto [] = refl
  in_order_is_onto (x ∷ xs) = ap (add before x) (in_order_is_onto xs)

  pub onto_push : (xs : List X) (x : X) (list : List X) → onto (xs ++ x ∷ []) list ≡ onto xs (add before x list)
  onto_push [] x list = refl
  onto_push (y ∷ xs) x list = ap (add before y) (onto_push xs x list)

-- within the list it doesn't matter what stands for a place that isn't there
pub get_or_any : {X : Type 0} (list : List X) (i : ℕ) (d e : X) → i < length list → get_or list i d ≡ get_or list i e
get_or_any [] i d e l = absurd (omega arith)
get_or_any (y ∷ ys) zero d e l = refl
get_or_any (y ∷ ys) (suc i) d e l = get_or_any ys i d e (omega arith)

-- the loop that looks for a repetition
module _ {X : Type 0} (same : X → X → Bool) where
  any_at : (p : X → Bool) (list : List X) (j : ℕ) (d : X) → j < length list → list_any p (drop j list) ≡ (p (get_or list j d) || list_any p (drop (j + 1) list))
  any_at p list j d l = ap (list_any p) (drop-cons list j d l) ∙ ap (λ n. p (get_or list j d) || list_any p (drop n list)) (sym (add-one j))

  pub second_start : (list : List X) (i : ℕ) (r : Bool) → i < length list → r ≡ repeats same (drop i list)
      → (d : X) → r ≡ (list_any (same (get_or list i d)) (drop (i + 1) list) || repeats same (drop (i + 1) list))
  second_start list i r l h d =
      h ∙ ap (repeats same) (drop-cons list i d l) ∙ ap (λ n. list_any (same (get_or list i d)) (drop n list) || repeats same (drop n list)) (sym (add-one i))

  pub found_again : (list : List X) (i j : ℕ) (a b : X) (r rest : Bool) → a ≡ get_or list i a → b ≡ get_or list j b → j < length list → same a b ≡ true
      → ((d : X) → r ≡ (list_any (same (get_or list i d)) (drop j list) || rest)) → true ≡ r
  found_again list i j a b r rest f g l e h =
      let at : same (get_or list i a) (get_or list j b) ≡ true = ap (λ t. same t (get_or list j b)) (sym f) ∙ ap (same a) (sym g) ∙ e in
      sym (h a ∙ or_left (list_any (same (get_or list i a)) (drop j list)) rest
      (any_at (same (get_or list i a)) list j b l ∙ or_left (same (get_or list i a) (get_or list j b)) (list_any (same (get_or list i a)) (drop (j + 1) list)) at))

  pub not_found : (list : List X) (i j : ℕ) (a b : X) (r rest : Bool) → a ≡ get_or list i a → b ≡ get_or list j b → i < length list → j < length list → same a b ≡ false
      → ((d : X) → r ≡ (list_any (same (get_or list i d)) (drop j list) || rest)) → (d : X) → r ≡ (list_any (same (get_or list i d)) (drop (j + 1) list) || rest)
  not_found list i j a b r rest f g k l e h d =
      let at : same (get_or list i d) (get_or list j b) ≡ false = ap (λ t. same t (get_or list j b)) (get_or_any list i d a k ∙ sym f) ∙ ap (same a) (sym g) ∙ e in
      h d ∙ ap (λ t. t || rest) (any_at (same (get_or list i d)) list j b l ∙ ap (λ t. t || list_any (same (get_or list i d)) (drop (j + 1) list)) at)

  second_past : (list whole : List X) (p : X → X → Bool) (j : ℕ) → length list ≤ j → (a : X) → list_any (p a) (drop j list) ≡ false
  second_past [] whole p zero l a = refl
  second_past [] whole p (suc j) l a = refl
  second_past (y ∷ ys) whole p zero l a = absurd (omega arith)
  second_past (y ∷ ys) whole p (suc j) l a = second_past ys whole p j (omega arith) a

  pub second_end : (list : List X) (i j : ℕ) (r rest : Bool) → i < length list → length list ≤ j → ((d : X) → r ≡ (list_any (same (get_or list i d)) (drop j list) || rest)) →
      r ≡ rest
  second_end [] i j r rest k l h = absurd (omega arith)
  second_end (y ∷ ys) i j r rest k l h = h y ∙ ap (λ t. t || rest) (second_past (y ∷ ys) ys same j l (get_or (y ∷ ys) i y))

-- a list in order has no more elements
module _ {X : Type 0} (before : X → X → Bool) where
  add_len_by : (x y : X) (ys : List X) (s t : Bool) → before y x ≡ s → before x y ≡ t → length (add before x ys) ≤ length ys + 1 → length (add before x (y ∷ ys)) ≤ length ys + 2
  add_len_by x y ys true t e f h = let l : length (add before x (y ∷ ys)) ≡ length (y ∷ add before x ys) = ap length (add_at before x y ys e) in omega arith
  add_len_by x y ys false true e f h = let l : length (add before x (y ∷ ys)) ≡ length (x ∷ y ∷ ys) = ap length (add_before before x y ys e f) in omega arith
  add_len_by x y ys false false e f h = let l : length (add before x (y ∷ ys)) ≡ length (y ∷ ys) = ap length (add_tied before x y ys e f) in omega arith

  add_len : (x : X) (ys : List X) → length (add before x ys) ≤ length ys + 1
  add_len x [] = omega arith
  add_len x (y ∷ ys) = let h = add_len_by x y ys (before y x) (before x y) refl refl (add_len x ys) in omega arith

  pub in_order_len : (xs : List X) → length (in_order before xs) ≤ length xs
  in_order_len [] = omega arith
  in_order_len (x ∷ xs) = let a = add_len x (in_order before xs) in let b = in_order_len xs in omega arith

-- what holds of each element holds of each of the list in order
module _ {X : Type 0} (before : X → X → Bool) (P : X → Type 0) where
  add_all_by : (x y : X) (ys : List X) (s t : Bool) → before y x ≡ s → before x y ≡ t → P x → P y → All P ys → All P (add before x ys) → All P (add before x (y ∷ ys))
  add_all_by x y ys true t e f p q r more = subst (All P) (sym (add_at before x y ys e)) (All-cons P y (add before x ys) q more)
  add_all_by x y ys false true e f p q r more = subst (All P) (sym (add_before before x y ys e f)) (All-cons P x (y ∷ ys) p (All-cons P y ys q r))
  add_all_by x y ys false false e f p q r more = subst (All P) (sym (add_tied before x y ys e f)) (All-cons P y ys q r)

  add_all : (x : X) (ys : List X) → P x → All P ys → All P (add before x ys)
  add_all x [] p all = All-cons P x [] p (All-nil P)
  add_all x (y ∷ ys) p all =
      let q = All-head P y ys all in
      let r = All-tail P y ys all in
      add_all_by x y ys (before y x) (before x y) refl refl p q r (add_all x ys p r)

  pub in_order_all : (xs : List X) → All P xs → All P (in_order before xs)
  in_order_all [] all = All-nil P
  in_order_all (x ∷ xs) all = add_all x (in_order before xs) (All-head P x xs all) (in_order_all xs (All-tail P x xs all))
