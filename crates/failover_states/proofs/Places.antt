-- One place more in the loop that orders.
use Rattle.std.proofs.Common.{◌≡◌, ℕ, zero, suc, ◌+◌, ◌-◌, ◌<◌, Bool, true, false, cond, List, [], ◌∷◌, ◌++◌, length, get_or, set, take, drop, refl, ap, sym, arith, append_assoc}
use Rattle.std.specs.Prelude.{◌&&◌}
use Rattle.std.proofs.lemmas.Bool.{and_from}
use Rattle.std.proofs.lemmas.List.{take_more, take_more_set, drop_more, drop-set-lt}
use Rattle.failover_states.specs.declared.replicas.Replica.{Replica}
use Rattle.failover_states.specs.Replicas.{untouched, is_unsent, sent_now}
use Rattle.failover_states.specs.Orders.{ordered_from}

none_left : (can : ℕ → Bool) (now place : ℕ) (xs : List Replica) → ordered_from can now place zero xs ≡ xs
none_left can now place [] = refl
none_left can now place (x ∷ xs) = refl

chosen : (b : Bool) (xs ys : List Replica) → b ≡ true → cond b xs ys ≡ xs
chosen true xs ys h = refl
chosen false xs ys h = cc

passed_over : (b : Bool) (xs ys : List Replica) → b ≡ false → cond b xs ys ≡ ys
passed_over true xs ys h = cc
passed_over false xs ys h = refl

pub head_yes : (can : ℕ → Bool) (now place left : ℕ) (x : Replica) (xs : List Replica) → 0 < left → is_unsent x.progress ≡ true → can place ≡ true →
    ordered_from can now place left (x ∷ xs) ≡ sent_now now ∷ ordered_from can now (place + 1) (left - 1) xs
head_yes can now place zero x xs some u c = absurd (omega arith)
head_yes can now place (suc left) x xs some u c =
    let one : suc left - 1 ≡ left = omega arith in
    rw one (chosen (is_unsent x.progress && can place) (sent_now now ∷ ordered_from can now (place + 1) left xs) (x ∷ ordered_from can now (place + 1) (suc left) xs)
    (and_from (is_unsent x.progress) (can place) u c))

pub head_no : (can : ℕ → Bool) (now place left : ℕ) (x : Replica) (xs : List Replica) → (0 < left → (is_unsent x.progress && can place) ≡ false) →
    ordered_from can now place left (x ∷ xs) ≡ x ∷ ordered_from can now (place + 1) left xs
head_no can now place zero x xs h = sym (ap (λ (ys : List Replica). x ∷ ys) (none_left can now (place + 1) xs))
head_no can now place (suc left) x xs h =
    passed_over (is_unsent x.progress && can place) (sent_now now ∷ ordered_from can now (place + 1) left xs) (x ∷ ordered_from can now (place + 1) (suc left) xs) (h (omega arith))

front : (xs : List Replica) (place : ℕ) → place < length xs → drop place xs ≡ get_or xs place untouched ∷ drop (place + 1) xs
front xs place lt = drop_more xs place untouched lt

joined : (xs ys : List Replica) (x : Replica) → xs ++ (x ∷ ys) ≡ (xs ++ x ∷ []) ++ ys
joined xs ys x = sym (append_assoc xs (x ∷ []) ys)

pub order_yes : (can : ℕ → Bool) (now place left : ℕ) (xs : List Replica) → place < length xs → 0 < left → is_unsent (get_or xs place untouched).progress ≡ true →
    can place ≡ true → take (place + 1) (set xs place (sent_now now)) ++
    ordered_from can now (place + 1) (left - 1) (drop (place + 1) (set xs place (sent_now now))) ≡ take place xs ++ ordered_from can now place left (drop place xs)
order_yes can now place left xs lt some u c =
    let more : place < place + 1 = omega arith in
    rw (
      take_more_set xs place (sent_now now) lt,
      drop-set-lt (place + 1) xs place (sent_now now) more,
      front xs place lt,
      head_yes can now place left (get_or xs place untouched)
          (drop (place + 1) xs) some u c,
    )
    (sym (joined (take place xs) (ordered_from can now (place + 1) (left - 1) (drop (place + 1) xs)) (sent_now now)))

pub order_no : (can : ℕ → Bool) (now place left : ℕ) (xs : List Replica) → place < length xs → (0 < left → (is_unsent (get_or xs place untouched).progress && can place) ≡ false) →
    take (place + 1) xs ++ ordered_from can now (place + 1) left (drop (place + 1) xs) ≡ take place xs ++ ordered_from can now place left (drop place xs)
order_no can now place left xs lt h =
    rw (take_more xs place untouched lt, front xs place lt, head_no can now place left (get_or xs place untouched) (drop (place + 1) xs) h)
    (sym (joined (take place xs) (ordered_from can now (place + 1) left (drop (place + 1) xs)) (get_or xs place untouched)))
