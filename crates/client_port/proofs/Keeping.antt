-- A slab whose value at a key changes.
use Rattle.std.proofs.Common.{◌≡◌, ◌≢◌, ◌⊎◌, ◌∙◌, ℕ, ◌≤◌, ◌<◌, Option, Some, None, is_some, cond, length, ap, arith, inl, inr, subst, sym}
use Rattle.std.specs.Prelude.{IfSome}
use Rattle.std.proofs.lemmas.Bool.{cases_eq}
use Rattle.std.proofs.lemmas.List.Sums.{sum_by-set}
use Rattle.slab.specs.Slab.{Slab, get, ContainsKey, with_value, slab_len, Updates}
use Rattle.slab.proofs.SlabLemmas.{ContainsKey-within, Updates-with_value}

module _ {T : Type 0} where
  counted : Option T → ℕ
  counted slot = cond (is_some slot) 1 0

  -- a write through `get_mut(key)` leaves as many values
  pub kept_few : (s : Slab T) (key : ℕ) (before after : T) (most : ℕ) → get s key ≡ Some before → slab_len s ≤ most → slab_len (with_value s key after) ≤ most
  unfolding counted
  kept_few s key before after most found few =
      let present : ContainsKey s key = grind (arith, found) in
      let within : key < length s.slots = ContainsKey-within s key present in
      let one : counted (get s key) ≡ 1 = ap counted found in
      omega (arith, few, one, sum_by-set counted s.slots key (Some after) None within)

  -- and each other key's value
  pub others_kept : (s : Slab T) (key : ℕ) (before after : T) (other : ℕ) → get s key ≡ Some before → other ≢ key → get (with_value s key after) other ≡ get s other
  others_kept s key before after other found differs =
      let present : ContainsKey s key = grind (arith, found) in
      (Updates-with_value s key after present).others other differs

  -- also where it is closed, or looked at once more, after the write
  pub others_closed : (s left : Slab T) (key : ℕ) (before after : T) (other : ℕ) → get s key ≡ Some before →
      ((it : ℕ) → it ≢ key → get left it ≡ get (with_value s key after) it) → other ≢ key → get left other ≡ get s other
  others_closed s left key before after other found same differs = same other differs ∙ others_kept s key before after other found differs

  -- what is the same at a key has its value still
  pub same_keeps : (before after : Option T) → after ≡ before → IfSome before (λ c. after ≡ Some c)
  same_keeps None after same = tt
  same_keeps (Some c) after same = same

  pub all_stay : (Good : T → Type 0) (before after : Option T) → after ≡ before → IfSome before (λ c. (after ≡ Some c) ⊎ Good c)
  all_stay Good None after same = tt
  all_stay Good (Some c) after same = inl same

  gone_or_same : (Good : T → Type 0) (slot mid new : Option T) → mid ≡ slot → IfSome mid (λ c. new ≡ Some c) → IfSome slot (λ c. (new ≡ Some c) ⊎ Good c)
  gone_or_same Good None mid new same h = tt
  gone_or_same Good (Some c) mid new same h = inl (subst (λ (x : Option T). IfSome x (λ d. new ≡ Some d)) same h)

  good_goes : (Good : T → Type 0) (slot new : Option T) → IfSome slot Good → IfSome slot (λ c. (new ≡ Some c) ⊎ Good c)
  good_goes Good None new h = tt
  good_goes Good (Some c) new h = inr h

  -- a value was put where there was none
  pub inserted_keeps : (old new : Slab T) (key : ℕ) (value : T) (other : ℕ) → get old key ≡ None → Updates old new key (Some value)
      → IfSome (get old other) (λ c. get new other ≡ Some c)
  inserted_keeps old new key value other vacant updates = elim (cases_eq other key) as (λ _. IfSome (get old other) (λ c. get new other ≡ Some c)) [
    | inl same ↦ subst (λ (slot : Option T). IfSome slot (λ c. get new other ≡ Some c)) (sym (ap (get old) same ∙ vacant)) tt
    | inr differs ↦ same_keeps (get old other) (get new other) (updates.others other differs)
  ]

  -- the one that may go was closed, and no other one
  pub stays_or_goes : (Good : T → Type 0) (old mid new : Slab T) (key other : ℕ) → IfSome (get old key) Good
      → ((it : ℕ) → it ≢ key → get mid it ≡ get old it) → ((it : ℕ) → IfSome (get mid it) (λ c. get new it ≡ Some c))
      → IfSome (get old other) (λ c. (get new other ≡ Some c) ⊎ Good c)
  stays_or_goes Good old mid new key other good others kept = elim (cases_eq other key) as (λ _. IfSome (get old other) (λ c. (get new other ≡ Some c) ⊎ Good c)) [
    | inl same ↦ good_goes Good (get old other) (get new other) (subst (λ (it : ℕ). IfSome (get old it) Good) (sym same) good)
    | inr differs ↦ gone_or_same Good (get old other) (get mid other) (get new other) (others other differs) (kept other)
  ]
