-- Orders given out one after another reach those that the rule names.
use Rattle.std.proofs.Common.{◌≡◌, ℕ, zero, suc, ◌+◌, ◌-◌, ◌<◌, ◌≤◌, Bool, true, false, cond, List, [], ◌∷◌, length, nat_lt, refl, ap, sym, ◌∙◌, ◌⊎◌, inl, inr, arith, zero-add, add-one}
use Rattle.std.specs.Prelude.{◌&&◌}
use Rattle.std.proofs.lemmas.Bool.Decides.{nat_tests}
use Rattle.std.proofs.lemmas.Bool.{and_parts, lt-ltb, ltb-true, ltb-false}
use Rattle.ballot_law.specs.Counts.{count_below}
use Rattle.failover_states.specs.declared.replicas.Replica.{Replica}
use Rattle.failover_states.specs.Replicas.{is_unsent, sent_now, replica_at, by_place, is_due, is_next, told}
use Rattle.failover_states.specs.Orders.{ordered_from}
use Rattle.failover_states.proofs.Places.{head_yes, head_no}

abbrev change : (test : ℕ → Bool) → (now : ℕ) → ℕ → Replica → Replica
change test now place replica = cond (test place) (sent_now now) replica

either : (b : Bool) → (b ≡ true) ⊎ (b ≡ false)
either true = inl refl
either false = inr refl

first : {X : Type 0} (b : Bool) (x y : X) → b ≡ true → cond b x y ≡ x
first true x y h = refl
first false x y h = cc

second : {X : Type 0} (b : Bool) (x y : X) → b ≡ false → cond b x y ≡ y
second true x y h = cc
second false x y h = refl

and_not : (a b : Bool) → (a && b) ≡ false → b ≡ true → a ≡ false
and_not true b h k = cc
and_not false b h k = refl

count_yes : (test : ℕ → Bool) (n : ℕ) → test n ≡ true → count_below test (n + 1) ≡ count_below test n + 1
count_yes test n h = ap (λ m. count_below test m) (add-one n) ∙ first (test n) (count_below test n + 1) (count_below test n) h

count_no : (test : ℕ → Bool) (n : ℕ) → test n ≡ false → count_below test (n + 1) ≡ count_below test n
count_no test n h = ap (λ m. count_below test m) (add-one n) ∙ second (test n) (count_below test n + 1) (count_below test n) h

-- the busy ones are counted off the limit
within : (busy count limit : ℕ) → nat_lt (busy + count) limit ≡ nat_lt count (limit - busy)
within busy count limit = grind (arith, nat_tests)

-- so many more, of those that are due
abbrev in_turn : (due : ℕ → Bool) (free : ℕ) → ℕ → Bool
in_turn due free place = due place && nat_lt (count_below due place) free

place_told : (can : ℕ → Bool) (now free : ℕ) (due : ℕ → Bool) (p : ℕ) (y : Replica) (ys : List Replica) → due p ≡ (is_unsent y.progress && can p) → in_turn due free p ≡ true →
    ordered_from can now (p + 1) (free - count_below due (p + 1)) ys ≡ by_place (change (in_turn due free) now) (p + 1) ys →
    ordered_from can now p (free - count_below due p) (y ∷ ys) ≡ by_place (change (in_turn due free) now) p (y ∷ ys)
place_told can now free due p y ys same turn rest =
    let chosen = and_parts (due p) (nat_lt (count_below due p) free) turn in
    let yes : due p ≡ true = chosen.0 in
    let room : count_below due p < free = ltb-true (count_below due p) free chosen.1 in
    let both : (is_unsent y.progress && can p) ≡ true = sym same ∙ yes in
    let left : free - count_below due p - 1 ≡ free - count_below due (p + 1) = rw (count_yes due p yes) (omega arith) in
    let some : 0 < free - count_below due p = omega (arith, room) in
    head_yes can now p (free - count_below due p) y ys some (and_parts (is_unsent y.progress) (can p) both).0 (and_parts (is_unsent y.progress) (can p) both).1
    ∙ (ap (λ n. sent_now now ∷ ordered_from can now (p + 1) n ys) left ∙
    (ap (λ (zs : List Replica). sent_now now ∷ zs) rest ∙
    ap (λ (z : Replica). z ∷ by_place (change (in_turn due free) now) (p + 1) ys) (sym (first (in_turn due free p) (sent_now now) y turn))))

left_over : (due : ℕ → Bool) (free p : ℕ) → in_turn due free p ≡ false → free - count_below due p ≡ free - count_below due (p + 1)
left_over due free p turn =
    elim (either (due p)) [
      | inl is ↦
          let full : free ≤ count_below due p = ltb-false (count_below due p) free (sym (ap (λ b. b && nat_lt (count_below due p) free) is) ∙ turn) in
          rw (count_yes due p is) (omega (arith, full))
      | inr isnt ↦ rw (count_no due p isnt) refl
    ]

place_kept : (can : ℕ → Bool) (now free : ℕ) (due : ℕ → Bool) (p : ℕ) (y : Replica) (ys : List Replica) → due p ≡ (is_unsent y.progress && can p) → in_turn due free p ≡ false →
    ordered_from can now (p + 1) (free - count_below due (p + 1)) ys ≡ by_place (change (in_turn due free) now) (p + 1) ys →
    ordered_from can now p (free - count_below due p) (y ∷ ys) ≡ by_place (change (in_turn due free) now) p (y ∷ ys)
place_kept can now free due p y ys same turn rest =
    let none : 0 < free - count_below due p → (is_unsent y.progress && can p) ≡ false = λ some.
    let room : count_below due p < free = omega (arith, some) in
    sym same ∙ and_not (due p) (nat_lt (count_below due p) free) turn (lt-ltb (count_below due p) free room) in
    head_no can now p (free - count_below due p) y ys none
    ∙ (ap (λ n. y ∷ ordered_from can now (p + 1) n ys) (left_over due free p turn) ∙
    (ap (λ (zs : List Replica). y ∷ zs) rest ∙ ap (λ (z : Replica). z ∷ by_place (change (in_turn due free) now) (p + 1) ys)
    (sym (second (in_turn due free p) (sent_now now) y turn))))

place_done : (can : ℕ → Bool) (now free : ℕ) (due : ℕ → Bool) (p : ℕ) (y : Replica) (ys : List Replica) → due p ≡ (is_unsent y.progress && can p) →
    ordered_from can now (p + 1) (free - count_below due (p + 1)) ys ≡ by_place (change (in_turn due free) now) (p + 1) ys →
    ordered_from can now p (free - count_below due p) (y ∷ ys) ≡ by_place (change (in_turn due free) now) p (y ∷ ys)
place_done can now free due p y ys same rest =
    elim (either (in_turn due free p)) [
      | inl turn ↦ place_told can now free due p y ys same turn rest
      | inr turn ↦ place_kept can now free due p y ys same turn rest
    ]

further : (whole ys : List Replica) (y : Replica) (p : ℕ) → ((j : ℕ) → replica_at whole (p + j) ≡ replica_at (y ∷ ys) j) → (j : ℕ) → replica_at whole (p + 1 + j) ≡ replica_at ys j
further whole ys y p same j =
    let next : p + 1 + j ≡ p + (j + 1) = omega arith in
    ap (λ n. replica_at whole n) next ∙ (same (j + 1) ∙ ap (λ n. replica_at (y ∷ ys) n) (add-one j))

in_order : (can : ℕ → Bool) (now free : ℕ) (whole ys : List Replica) (p : ℕ) → ((j : ℕ) → replica_at whole (p + j) ≡ replica_at ys j) →
    ordered_from can now p (free - count_below (is_due can whole) p) ys ≡ by_place (change (in_turn (is_due can whole) free) now) p ys
unfolding is_due
in_order can now free whole [] p same = refl
in_order can now free whole (y ∷ ys) p same =
    let start : p ≡ p + 0 = omega arith in
    let at : is_due can whole p ≡ (is_unsent y.progress && can p) =
    ap (λ n. is_unsent (replica_at whole n).progress && can p) start ∙ ap (λ (x : Replica). is_unsent x.progress && can p) (same 0) in
    place_done can now free (is_due can whole) p y ys at (in_order can now free whole ys (p + 1) (further whole ys y p same))

by_test : (f g : ℕ → Bool) (now n : ℕ) (ys : List Replica) (p : ℕ) → p + length ys ≤ n → ((k : ℕ) → k < n → f k ≡ g k) → by_place (change f now) p ys ≡ by_place (change g now) p ys
by_test f g now n [] p fits same = refl
by_test f g now n (y ∷ ys) p fits same =
    let here : p < n = omega (arith, fits) in
    let more : p + 1 + length ys ≤ n = omega (arith, fits) in
    ap (λ b. cond b (sent_now now) y ∷ by_place (change f now) (p + 1) ys) (same p here)
    ∙ ap (λ (zs : List Replica). cond (g p) (sent_now now) y ∷ zs) (by_test f g now n ys (p + 1) more same)

from_start : (xs : List Replica) (j : ℕ) → replica_at xs (0 + j) ≡ replica_at xs j
from_start xs j = ap (λ n. replica_at xs n) (zero-add j)

few_yes : (due : ℕ → Bool) (n : ℕ) → due n ≡ true → count_below due n ≤ n → count_below due (suc n) ≤ suc n
few_yes due n is below = rw (first (due n) (count_below due n + 1) (count_below due n) is) (omega (arith, below))

few_no : (due : ℕ → Bool) (n : ℕ) → due n ≡ false → count_below due n ≤ n → count_below due (suc n) ≤ suc n
few_no due n isnt below = rw (second (due n) (count_below due n + 1) (count_below due n) isnt) (omega (arith, below))

few : (due : ℕ → Bool) (n : ℕ) → count_below due n ≤ n
few due zero = omega arith
few due (suc n) =
    elim (either (due n)) [
      | inl is ↦ few_yes due n is (few due n)
      | inr isnt ↦ few_no due n isnt (few due n)
    ]

and_true : (a b : Bool) → b ≡ true → (a && b) ≡ a
and_true true b h = h
and_true false b h = refl

pub told_all : (can : ℕ → Bool) (now : ℕ) (xs : List Replica) → ordered_from can now 0 (length xs) xs ≡ told (is_due can xs) now xs
unfolding told
told_all can now xs =
    let all : (k : ℕ) → k < length xs → in_turn (is_due can xs) (length xs) k ≡ is_due can xs k = λ k lt.
    let room : count_below (is_due can xs) k < length xs = omega (arith, few (is_due can xs) k, lt) in
    and_true (is_due can xs k) (nat_lt (count_below (is_due can xs) k) (length xs)) (lt-ltb (count_below (is_due can xs) k) (length xs) room) in
    let none : length xs ≡ length xs - 0 = omega arith in
    ap (λ n. ordered_from can now 0 n xs) none
    ∙ in_order can now (length xs) xs xs 0 (from_start xs)
    ∙ by_test (in_turn (is_due can xs) (length xs)) (is_due can xs) now (length xs) xs 0 (omega arith) all

pub told_next : (can : ℕ → Bool) (now busy limit : ℕ) (xs : List Replica) → ordered_from can now 0 (limit - busy) xs ≡ told (is_next can busy limit xs) now xs
unfolding told is_next
told_next can now busy limit xs =
    let next : (k : ℕ) → k < length xs → in_turn (is_due can xs) (limit - busy) k ≡ is_next can busy limit xs k = λ k lt.
    ap (λ b. is_due can xs k && b) (sym (within busy (count_below (is_due can xs) k) limit)) in
    let none : limit - busy ≡ limit - busy - 0 = omega arith in
    ap (λ n. ordered_from can now 0 n xs) none
    ∙ in_order can now (limit - busy) xs xs 0 (from_start xs)
    ∙ by_test (in_turn (is_due can xs) (limit - busy)) (is_next can busy limit xs) now (length xs) xs 0 (omega arith) next
