-- Lists of which one item has changed, and searches through a list, place by place.
use Rattle.std.proofs.Common.{inl, inr, ◌≡◌, ◌≢◌, ◌⊎◌, ℕ, zero, suc, ◌<◌, ◌≤◌, ◌+◌, Some, None, List, [], ◌∷◌, ◌++◌, length, slice_get, get_or, set, refl, sym, ap, subst, arith}
use Rattle.std.specs.Prelude.{IfSome}
use Rattle.std.specs.List.{AllByRecursion}
use Rattle.std.proofs.lemmas.Bool.{cases_eq}
use Rattle.std.proofs.lemmas.Option.{none-some, same_Some, slice_get_within}

-- a changed list, item by item
pub set_get : {X : Type 0} (xs : List X) (k j : ℕ) (y p : X) → slice_get (set xs k y) j ≡ Some p → ((j ≡ k) × (p ≡ y)) ⊎ ((j ≢ k) × (slice_get xs j ≡ Some p))
set_get [] k j y p e = inr ((λ same. absurd (none-some p e)), e)
set_get (x ∷ xs) zero zero y p e = inl (refl, sym (same_Some y p e))
set_get (x ∷ xs) zero (suc j) y p e = inr ((λ same. cc), e)
set_get (x ∷ xs) (suc k) zero y p e = inr ((λ same. cc), e)
set_get (x ∷ xs) (suc k) (suc j) y p e =
    elim (set_get xs k j y p e) as (λ _. ((suc j ≡ suc k) × (p ≡ y)) ⊎ ((suc j ≢ suc k) × (slice_get xs j ≡ Some p))) [
      | inl h ↦ inl (ap suc h.0, h.1)
      | inr h ↦ inr ((λ same. h.0 (suc_same same)), h.1)
    ]
  where
    suc_same : {a b : ℕ} → suc a ≡ suc b → a ≡ b
    suc_same {a} {b} e = cc

pub get_set : {X : Type 0} (xs : List X) (k : ℕ) (x y : X) → slice_get xs k ≡ Some x → slice_get (set xs k y) k ≡ Some y
get_set [] k x y e = absurd (none-some x e)
get_set (z ∷ xs) zero x y e = refl
get_set (z ∷ xs) (suc k) x y e = get_set xs k x y e

pub get_other : {X : Type 0} (xs : List X) (k j : ℕ) (y : X) → j ≢ k → slice_get (set xs k y) j ≡ slice_get xs j
get_other [] k j y e = refl
get_other (z ∷ xs) zero zero y e = absurd (e refl)
get_other (z ∷ xs) zero (suc j) y e = refl
get_other (z ∷ xs) (suc k) zero y e = refl
get_other (z ∷ xs) (suc k) (suc j) y e = get_other xs k j y (λ same. e (ap suc same))

pub nat_cases : (a b : ℕ) → (a ≡ b) ⊎ (a ≢ b)
nat_cases = cases_eq

pub all_append : {X : Type 0} (P : X → Type 0) (xs ys : List X) → AllByRecursion P xs → AllByRecursion P ys → AllByRecursion P (xs ++ ys)
all_append P [] ys a b = b
all_append P (x ∷ xs) ys a b = (a.0, all_append P xs ys a.1 b)

pub all_get : {X : Type 0} (P : X → Type 0) (xs : List X) (k : ℕ) (x : X) → AllByRecursion P xs → slice_get xs k ≡ Some x → P x
all_get P [] k x all e = absurd (none-some x e)
all_get P (y ∷ xs) zero x all e = subst P (same_Some y x e) all.0
all_get P (y ∷ xs) (suc k) x all e = all_get P xs k x all.1 e

-- Searches

pub slice_get_at : {M : Type 0} (xs : List M) (k : ℕ) (d : M) → k < length xs → slice_get xs k ≡ Some (get_or xs k d)
slice_get_at [] k d h = absurd (omega arith)
slice_get_at (x ∷ xs) zero d h = refl
slice_get_at (x ∷ xs) (suc k) d h = slice_get_at xs k d (omega arith)

pub slice_get_past : {M : Type 0} (xs : List M) (k : ℕ) → length xs ≤ k → slice_get xs k ≡ None
slice_get_past [] k h = refl
slice_get_past (x ∷ xs) zero h = absurd (omega arith)
slice_get_past (x ∷ xs) (suc k) h = slice_get_past xs k (omega arith)

pub found_at : {M : Type 0} (xs : List M) (k : ℕ) (x d : M) → k < length xs → x ≡ get_or xs k d → (P : M → Type 0) → P x → IfSome (slice_get xs k) P
found_at xs k x d h e P p = subst (λ o. IfSome o P) (sym (slice_get_at xs k d h)) (subst P e p)

pub none_before : {M : Type 0} (xs : List M) (k : ℕ) (x d : M) → k < length xs → x ≡ get_or xs k d → (P : M → Type 0) → ((j : ℕ) → j < k → IfSome (slice_get xs j) P) → P x →
    (j : ℕ) → j < k + 1 → IfSome (slice_get xs j) P
none_before xs k x d h e P before p j less =
    elim (cases_eq j k) as (λ _. IfSome (slice_get xs j) P) [
      | inl same ↦ subst (λ i. IfSome (slice_get xs i) P) (sym same) (found_at xs k x d h e P p)
      | inr other ↦ before j (omega (arith, other, less))
    ]

-- where the search found none, no item is one
pub none_at_all : {M : Type 0} (xs : List M) (P : M → Type 0) → ((k : ℕ) → k < length xs → IfSome (slice_get xs k) P) → (k : ℕ) (m : M) → slice_get xs k ≡ Some m → P m
none_at_all xs P none k m e = subst (λ o. IfSome o P) e (none k (slice_get_within xs k m e))

pub held_at : {M : Type 0} (xs : List M) (k : ℕ) (x : M) → k < length xs → x ≡ get_or xs k x → (P : M → Type 0) → IfSome (slice_get xs k) P → P x
held_at xs k x h e P f = subst P (sym e) (subst (λ o. IfSome o P) (slice_get_at xs k x h) f)
