-- The line of a candidate, and what is read of it.
use Rattle.std.proofs.Common.{◌≡◌, ℕ, zero, suc, Bool, true, false, cond, eqb, List, [], ◌∷◌, refl, ap, sym, ◌∙◌, subst, inl, inr, Option, Some, None}
use Rattle.std.specs.Prelude.{IfSome}
use Rattle.std.proofs.lemmas.Bool.{eqb-true}
use Rattle.ballot_law.specs.declared.addresses.RunId.{RunId}
use Rattle.ballot_law.specs.Hellos.{IsRunId}
use Rattle.conf_lines.specs.declared.lines.StateLine.{StateLine}
use Rattle.conf_lines.specs.declared.lines.StateLine.TheVariants.{LeaderId}
use Rattle.conf_lines.proofs.StateLemmas.{IsId}
use Rattle.sentinel_conf.specs.Meaning.{first_given, candidate_at}
use Rattle.sentinel_conf.specs.Rewritten.{candidate_states}
use Rattle.sentinel_conf.proofs.SetLemmas.{In}

-- what is true of the line of the candidate is true of each line, as there is no other
pub each_candidate : (n : List ℕ) (o : Option RunId) (P : StateLine → Type 0) → ((id : RunId) → o ≡ Some id → P (LeaderId n id)) → (s : StateLine) → In s (candidate_states n o) →
    P s
each_candidate n None P h s i = absurd i
each_candidate n (Some id) P h s (inl e) = subst P (sym e) (h id refl)
each_candidate n (Some id) P h s (inr i) = absurd i

pub in_candidate : (n : List ℕ) (o : Option RunId) (id : RunId) → o ≡ Some id → In (LeaderId n id) (candidate_states n o)
in_candidate n None id e = cc
in_candidate n (Some d) id e = let f : id ≡ d = cc in inl (ap (LeaderId n) f)

pub id_of_some : (o : Option RunId) (id : RunId) → IfSome o IsRunId → o ≡ Some id → IsId id
id_of_some None id h e = cc
id_of_some (Some d) id h e = let f : d ≡ id = cc in subst IsId f (record { hi = h.hi; lo = h.lo })

-- the first that is given, where all that is given is this
module _ {X Y : Type 0} (h : X → Option Y) (o : Option Y) where
  pub none_stands : ((y : Y) → o ≡ Some y → (x : X) × In x [] × (h x ≡ Some y)) → None ≡ o
  none_stands g = by o refl where
    by : (p : Option Y) → o ≡ p → None ≡ o
    by None e = sym e
    by (Some y) e = absurd (g y e).1

  behind : (x : X) (xs : List X) (y : Y) → h x ≡ None → (z : X) → In z (x ∷ xs) → h z ≡ Some y → In z xs
  behind x xs y e z (inl a) f = let c : None ≡ Some y = sym e ∙ ap h (sym a) ∙ f in cc
  behind x xs y e z (inr i) f = i

  first_by : (x : X) (xs : List X) (t : Option Y) → h x ≡ t
      → ((z : X) → In z (x ∷ xs) → (y : Y) → h z ≡ Some y → o ≡ Some y)
      → ((y : Y) → o ≡ Some y → (z : X) × In z (x ∷ xs) × (h z ≡ Some y))
      → (((y : Y) → o ≡ Some y → (z : X) × In z xs × (h z ≡ Some y)) → first_given h xs ≡ o)
      → first_given h (x ∷ xs) ≡ o
  first_by x xs (Some y) e f g r = ap (λ t. elim t as (λ _. Option Y) [ Some y ↦ Some y | None ↦ first_given h xs ]) e ∙ sym (f x (inl refl) y e)
  first_by x xs None e f g r =
      ap (λ t. elim t as (λ _. Option Y) [ Some y ↦ Some y | None ↦ first_given h xs ]) e
      ∙ r (λ y q. let m = g y q in (m.0, behind x xs y e m.0 m.1 m.2, m.2))

  pub first_is : (xs : List X) → ((z : X) → In z xs → (y : Y) → h z ≡ Some y → o ≡ Some y)
      → ((y : Y) → o ≡ Some y → (z : X) × In z xs × (h z ≡ Some y)) → first_given h xs ≡ o
  first_is [] f g = none_stands g
  first_is (x ∷ xs) f g = first_by x xs (h x) refl f g (first_is xs (λ z i. f z (inr i)))

candidate_by : (v : ℕ) (o : Option RunId) (t : Bool) → eqb v 0 ≡ t → (v ≡ 0 → o ≡ None) → candidate_at v o ≡ o
candidate_by v o true e h = ap (λ t. cond t None o) e ∙ sym (h (eqb-true v 0 e))
candidate_by v o false e h = ap (λ t. cond t None o) e

pub candidate_stays : (v : ℕ) (o : Option RunId) → (v ≡ 0 → o ≡ None) → candidate_at v o ≡ o
candidate_stays v o h = candidate_by v o (eqb v 0) refl h

pub candidate_of_none : (v : ℕ) (o : Option RunId) → v ≡ 0 → candidate_at v o ≡ None
candidate_of_none v o e = ap (λ t. candidate_at t o) e
