use Rattle.std.proofs.Common.{arith, ◌≡◌, ◌⊎◌, ℕ, ◌+◌, ◌-◌, ◌*◌, ◌/◌, ◌<◌, ◌≤◌, min, inl, inr, refl, ap, subst, sym, ◌∙◌}
use Rattle.std.proofs.Math.Nat.{lt-div-mul-add, mul-le-mul_right, add-mul}
use Rattle.client_port.proofs.budget.share_of.Goals as goal

-- with one connection more for each port there would be too few descriptors
one_more_is_too_many : (descriptors rest ports each beside : ℕ) → 0 < ports → each ≡ (descriptors - rest) / ports →
    descriptors < (each - beside + 1 + beside) * ports + rest
one_more_is_too_many descriptors rest ports each beside some is =
    let left : descriptors - rest < (descriptors - rest) / ports * ports + ports = lt-div-mul-add {a = descriptors - rest} some in
    let more : (each + 1) * ports ≤ (each - beside + 1 + beside) * ports = mul-le-mul_right ports (omega arith) in
    let same : (each + 1) * ports ≡ each * ports + 1 * ports = add-mul each 1 ports in
    let divided : each * ports ≡ (descriptors - rest) / ports * ports = cc in
    omega arith

-- the less of two numbers is one of them
one_of_two : (share most : ℕ) → (min share most ≡ most) ⊎ (min share most ≡ share)
one_of_two share most = grind (arith)

most_or_too_many : (descriptors rest ports beside most left share kept : ℕ) → 0 < ports → left ≡ descriptors - rest → share ≡ left / ports - beside →
    kept ≡ min share most → (kept ≡ most) ⊎ (descriptors < (kept + 1 + beside) * ports + rest)
most_or_too_many descriptors rest ports beside most left share kept some left_is share_is kept_is = elim (one_of_two share most) as
    (λ _. (kept ≡ most) ⊎ (descriptors < (kept + 1 + beside) * ports + rest)) [
      | inl it ↦ inl (kept_is ∙ it)
      | inr it ↦
          let is : kept ≡ (descriptors - rest) / ports - beside = kept_is ∙ it ∙ share_is ∙ ap (λ (x : ℕ). x / ports - beside) left_is in
          inr (subst (λ (x : ℕ). descriptors < (x + 1 + beside) * ports + rest) (sym is) (one_more_is_too_many descriptors rest ports _ beside some refl))
    ]

pub returns-clause-most : goal.returns-clause-most
returns-clause-most c = most_or_too_many c.args.descriptors 8 c.args.ports c.args.beside c.args.most c.saturating_sub.result c.saturating_sub-2.result c.min.result c.requires
    c.saturating_sub.ensures c.saturating_sub-2.ensures c.min.ensures
