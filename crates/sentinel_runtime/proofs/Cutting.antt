-- Seats that are cut until none has a share to cut, of which the last one is taken each time.
use Rattle.std.proofs.Common.{◌≡◌, ℕ, suc, ◌+◌, ◌-◌, ◌*◌, ◌/◌, ◌≤◌, List, [], ◌∷◌, ◌++◌, length, arith, ap, ◌∙◌}
use Rattle.std.specs.List.{sum_by}
use Rattle.std.proofs.lemmas.List.{length_push}
use Rattle.std.proofs.lemmas.List.Sums.{sum_by_push}

module _ {T : Type 0} where
  added : (f : T → ℕ) (xs ys : List T) (x : T) → ys ≡ xs ++ x ∷ [] → sum_by f ys ≡ sum_by f xs + f x
  added f xs ys x is = ap (sum_by f) is ∙ sum_by_push f xs x

  pub shares_cut : (share : T → ℕ) (before left once twice : List T) (last one two : T) (made all : ℕ) → before ≡ left ++ last ∷ [] → once ≡ left ++ one ∷ [] →
      twice ≡ once ++ two ∷ [] → share one ≡ share last - share last / 2 → share two ≡ share last / 2 → sum_by share before + made ≡ all → sum_by share twice + made ≡ all
  shares_cut share before left once twice last one two made all p q r first second is =
      omega (arith, added share left before last p, added share left once one q, added share once twice two r, first, second, is)

  pub weights_cut : (share : T → ℕ) (before left once twice : List T) (last one two : T) → before ≡ left ++ last ∷ [] → once ≡ left ++ one ∷ [] → twice ≡ once ++ two ∷ [] →
      share one ≡ share last - share last / 2 → share two ≡ share last / 2 → 2 ≤ share last → suc (sum_by (λ t. 2 * share t - 1) twice) ≤ sum_by (λ t. 2 * share t - 1) before
  weights_cut share before left once twice last one two p q r first second more =
      let a = added (λ t. 2 * share t - 1) left before last p in
      let b = added (λ t. 2 * share t - 1) left once one q in
      let c = added (λ t. 2 * share t - 1) once twice two r in
      omega (arith, a, b, c, first, second, more)

  pub shares_made : (share : T → ℕ) (before left made more : List T) (last seat : T) (all : ℕ) → before ≡ left ++ last ∷ [] → more ≡ made ++ seat ∷ [] → share last ≡ 1 →
      sum_by share before + length made ≡ all → sum_by share left + length more ≡ all
  shares_made share before left made more last seat all p q one is =
      let count : length more ≡ length made + 1 = ap (λ (xs : List T). length xs) q ∙ length_push made seat in
      omega (arith, added share left before last p, count, one, is)

  pub weights_made : (share : T → ℕ) (before left : List T) (last : T) → before ≡ left ++ last ∷ [] → share last ≡ 1 →
      suc (sum_by (λ t. 2 * share t - 1) left) ≤ sum_by (λ t. 2 * share t - 1) before
  weights_made share before left last p one = omega (arith, added (λ t. 2 * share t - 1) left before last p, one)
