-- Parts that are added to a list with room for a limit, one behind the other.
use Rattle.std.proofs.Common.{◌≡◌, ℕ, zero, suc, min, Bool, true, if◌then◌else◌, ◌⊎◌, inl, inr, ◌+◌, ◌-◌, ◌≤◌, ◌<◌, List, [], ◌∷◌, ◌++◌, length, take, refl, ap, sym, ◌∙◌, arith, append_assoc, append-nil, length-append}
use Rattle.std.proofs.lemmas.List.{take_all, take-append-le}
use Rattle.std.proofs.Math.Seq.{take-append-add}
use Rattle.std.proofs.lemmas.Bool.{cases_lt}
use Rattle.bounded_list.specs.BoundedLists.{bounded}

module _ {X : Type 0} where
  take_again : (n : ℕ) (xs ys : List X) → take n (take n xs ++ ys) ≡ take n (xs ++ ys)
  take_again zero xs ys = refl
  take_again (suc n) [] ys = refl
  take_again (suc n) (x ∷ xs) ys = ap (λ t. x ∷ t) (take_again n xs ys)

  take_min : (k : ℕ) (ys : List X) → take (min (length ys) k) ys ≡ take k ys
  take_min k ys = by_order (cases_lt (length ys) k) where
    by_order : (length ys < k) ⊎ (k ≤ length ys) → take (min (length ys) k) ys ≡ take k ys
    by_order (inr h) = ap (λ n. take n ys) (let e : min (length ys) k ≡ k = omega arith in e)
    by_order (inl h) =
        ap (λ n. take n ys) (let e : min (length ys) k ≡ length ys = omega arith in e)
        ∙ take_all (length ys) ys (omega arith)
        ∙ sym (take_all k ys (omega arith))

  -- what was cut once may be cut again
  pub bounded_more : (limit : ℕ) (xs ys : List X) → bounded limit (bounded limit xs ++ ys) ≡ bounded limit (xs ++ ys)
  unfolding bounded
  bounded_more limit xs ys = take_again limit xs ys

  pub bounded_again : (limit : ℕ) (xs : List X) → bounded limit (bounded limit xs) ≡ bounded limit xs
  bounded_again limit xs = ap (bounded limit) (sym (append-nil (bounded limit xs))) ∙ bounded_more limit xs [] ∙ ap (bounded limit) (append-nil xs)

  -- what has room is whole
  pub bounded_all : (limit : ℕ) (xs : List X) → length xs ≤ limit → bounded limit xs ≡ xs
  unfolding bounded
  bounded_all limit xs h = take_all limit xs h

  -- where there is no room, nothing is added
  pub bounded_full : (limit : ℕ) (xs ys : List X) → length xs ≡ limit → bounded limit (xs ++ ys) ≡ xs
  unfolding bounded
  bounded_full limit xs ys h = take-append-le limit xs ys (omega arith) ∙ take_all limit xs (omega arith)

  -- two parts, one behind the other
  pub added_both : (limit : ℕ) (old first second : List X) → bounded limit (bounded limit (old ++ first) ++ second) ≡ bounded limit (old ++ (first ++ second))
  added_both limit old first second = bounded_more limit (old ++ first) second ∙ ap (bounded limit) (append_assoc old first second)

  pub two_adds : (limit : ℕ) (old mid new first second : List X) → mid ≡ bounded limit (old ++ first) → new ≡ bounded limit (mid ++ second)
      → new ≡ bounded limit (old ++ (first ++ second))
  two_adds limit old mid new first second e f = f ∙ ap (λ t. bounded limit (t ++ second)) e ∙ added_both limit old first second

  -- the part that has room
  fits_of : (limit : ℕ) (xs ys : List X) → length xs ≤ limit → xs ++ take (min (length ys) (limit - length xs)) ys ≡ bounded limit (xs ++ ys)
  unfolding bounded
  fits_of limit xs ys h =
      let whole : length xs + (limit - length xs) ≡ limit = omega arith in
      ap (λ t. xs ++ t) (take_min (limit - length xs) ys)
      ∙ sym (take-append-add xs ys (limit - length xs))
      ∙ ap (λ n. take n (xs ++ ys)) whole

  -- what is added of a piece
  pub added_fits : (limit : ℕ) (xs ys fits new : List X) (k : ℕ) (ok : Bool) → length xs ≤ limit → k ≡ min (length ys) (limit - length xs) → fits ≡ take k ys
      → ok ≡ true → new ≡ (if ok then xs ++ fits else xs) → new ≡ bounded limit (xs ++ ys)
  added_fits limit xs ys fits new k ok h e f g n =
      n ∙ ap (λ t. if t then xs ++ fits else xs) g ∙ ap (λ t. xs ++ t) (f ∙ ap (λ m. take m ys) e) ∙ fits_of limit xs ys h

  -- an item where there is room
  pub pushed : (limit : ℕ) (xs new : List X) (x : X) (ok : Bool) → length xs < limit → ok ≡ true → new ≡ (if ok then xs ++ x ∷ [] else xs)
      → new ≡ bounded limit (xs ++ x ∷ [])
  pushed limit xs new x ok h e n =
      n
      ∙ ap (λ t. if t then xs ++ x ∷ [] else xs) e
      ∙ sym (bounded_all limit (xs ++ x ∷ []) (let k : length (xs ++ x ∷ []) ≡ length xs + 1 = length-append xs (x ∷ []) in omega arith))
