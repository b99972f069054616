-- The choice by one place after another is an eligible one, and none better.
use Rattle.std.proofs.Common.{◌≡◌, ℕ, zero, suc, ◌<◌, Bool, true, false, cond, Option, Some, None, List, length, refl, inl, ⊎_elim, arith, eqb, ltb}
use Rattle.std.specs.Prelude.{MatchOption, IfSome, IsNone, ◌↔◌, ◌&&◌, ◌⊎◌}
use Rattle.std.proofs.lemmas.Bool.Decides.{nat_tests}
use Rattle.ballot_law.specs.declared.addresses.RunId.{RunId}
use Rattle.ballot_law.specs.Orders.{id_before}
use Rattle.replica_choice.specs.declared.candidates.Candidate.{Candidate}
use Rattle.replica_choice.specs.declared.candidates.Limits.{Limits}
use Rattle.replica_choice.specs.Choices.{is_eligible, has_smaller_id, is_better, candidate_at, with_place, choice_below, choice_of, IsEligible, IsBetter}
use Rattle.ballot_law.proofs.Rising.{id_strict}
use Rattle.ballot_law.proofs.Counting.{below_suc}

abbrev IsEligiblePlace : List Candidate → (now : ℕ) → Limits → ℕ → Type 0
IsEligiblePlace candidates now limits i = is_eligible now limits (candidate_at candidates i) ≡ true

-- an eligible one of the first n places, and none of these that is eligible is better
record IsChoice (candidates : List Candidate) (now : ℕ) (limits : Limits) (n best : ℕ) : Type 0 where
  pub place : best < n
  pub eligible : IsEligiblePlace candidates now limits best
  pub none_better : (i : ℕ) → i < n → IsEligiblePlace candidates now limits i → ¬ IsBetter candidates i best

abbrev HasNoEligible : List Candidate → (now : ℕ) → Limits → (n : ℕ) → Type 0
HasNoEligible candidates now limits n = (i : ℕ) → i < n → is_eligible now limits (candidate_at candidates i) ≡ false

-- the smaller number first, and where it is the same by more
abbrev rises : (p q : ℕ) → Bool → Bool
rises p q inner = cond (eqb p q) inner (ltb p q)

rises_trans : (p q r : ℕ) (x y z : Bool) → (x ≡ true → y ≡ true → z ≡ true) → rises p q x ≡ true → rises q r y ≡ true → rises p r z ≡ true
rises_trans p q r x y z inner h k = grind (arith, nat_tests)

rises_irrefl : (p : ℕ) (x : Bool) → x ≡ false → rises p p x ≡ false
rises_irrefl p x h = grind (arith, nat_tests)

-- what is above something is above all that is not above it
rises_above : (p q r : ℕ) (x y z : Bool) → (x ≡ true → y ≡ false → z ≡ true) → rises p q x ≡ true → rises r q y ≡ false → rises p r z ≡ true
rises_above p q r x y z inner h k = grind (arith, nat_tests)

rises_above_reversed : (p q r : ℕ) (x y z : Bool) → (x ≡ true → y ≡ false → z ≡ true) → rises q p x ≡ true → rises q r y ≡ false → rises r p z ≡ true
rises_above_reversed p q r x y z inner h k = grind (arith, nat_tests)

before_above : (a b c : RunId) → id_before a b ≡ true → id_before c b ≡ false → id_before a c ≡ true
before_above a b c h k = grind (arith, nat_tests)

id_trans : (a b c : Option RunId) → has_smaller_id a b ≡ true → has_smaller_id b c ≡ true → has_smaller_id a c ≡ true
id_trans None b c h k = cc
id_trans (Some a) None c h k = cc
id_trans (Some a) (Some b) None h k = refl
id_trans (Some a) (Some b) (Some c) h k = id_strict.transitive a b c h k

id_above : (a b c : Option RunId) → has_smaller_id a b ≡ true → has_smaller_id c b ≡ false → has_smaller_id a c ≡ true
id_above None b c h k = cc
id_above (Some a) b None h k = refl
id_above (Some a) None (Some c) h k = cc
id_above (Some a) (Some b) (Some c) h k = before_above a b c h k

id_irrefl : (a : Option RunId) → has_smaller_id a a ≡ false
id_irrefl None = refl
id_irrefl (Some a) = id_strict.irreflexive a

better_trans : (a b c : Candidate) → is_better a b ≡ true → is_better b c ≡ true → is_better a c ≡ true
better_trans a b c h k =
    rises_trans a.priority b.priority c.priority _ _ _
    (λ x y. rises_trans c.offset b.offset a.offset _ _ _ (λ y' x'. id_trans a.id b.id c.id x' y') y x)
    h
    k

better_above : (a b c : Candidate) → is_better a b ≡ true → is_better c b ≡ false → is_better a c ≡ true
better_above a b c h k =
    rises_above a.priority b.priority c.priority _ _ _
    (λ x y. rises_above_reversed a.offset b.offset c.offset _ _ _ (id_above a.id b.id c.id) x y)
    h
    k

better_irrefl : (a : Candidate) → is_better a a ≡ false
better_irrefl a = rises_irrefl a.priority _ (rises_irrefl a.offset _ (id_irrefl a.id))

abbrev IsBest : List Candidate → (now : ℕ) → Limits → (n : ℕ) → Option ℕ → Type 0
IsBest candidates now limits n choice = MatchOption choice (HasNoEligible candidates now limits n) (IsChoice candidates now limits n)

first : (candidates : List Candidate) (now : ℕ) (limits : Limits) (n : ℕ) (eligible : Bool) → is_eligible now limits (candidate_at candidates n) ≡ eligible →
    HasNoEligible candidates now limits n → IsBest candidates now limits (suc n) (cond eligible (Some n) None)
first candidates now limits n true e none =
    record {
      place = omega arith;
      eligible = e;
      none_better = λ i lt el better.
          ⊎_elim
          (λ l. let lost = none i l in cc)
          (λ same. ⊎_elim (λ h. let lost = better_irrefl (candidate_at candidates n) in cc) (λ h. absurd (omega arith)) better)
          (below_suc i n lt);
    }
first candidates now limits n false e none =
    λ i lt. ⊎_elim (λ l. none i l) (λ same. rw same e) (below_suc i n lt)

replaced : (candidates : List Candidate) (now : ℕ) (limits : Limits) (n best : ℕ) → IsEligiblePlace candidates now limits n →
    is_better (candidate_at candidates n) (candidate_at candidates best) ≡ true → IsChoice candidates now limits n best → IsChoice candidates now limits (suc n) n
replaced candidates now limits n best e b choice =
    record {
      place = omega arith;
      eligible = e;
      none_better = λ i lt el better.
          ⊎_elim
          (λ l. ⊎_elim
          (λ h. choice.none_better i l el (inl (better_trans (candidate_at candidates i) (candidate_at candidates n) (candidate_at candidates best) h b)))
          (λ h. beaten i l el h.0)
          better)
          (λ same. ⊎_elim (λ h. let lost = better_irrefl (candidate_at candidates n) in cc) (λ h. absurd (omega arith)) better)
          (below_suc i n lt);
    }
  where
    beaten : (i : ℕ) → i < n → IsEligiblePlace candidates now limits i → is_better (candidate_at candidates n) (candidate_at candidates i) ≡ false → ⊥
    beaten i l el lost = known (is_better (candidate_at candidates i) (candidate_at candidates best)) refl
      where
        known : (v : Bool) → is_better (candidate_at candidates i) (candidate_at candidates best) ≡ v → ⊥
        known true h = choice.none_better i l el (inl h)
        known false h = let won = better_above (candidate_at candidates n) (candidate_at candidates best) (candidate_at candidates i) b h in cc

kept : (candidates : List Candidate) (now : ℕ) (limits : Limits) (n best : ℕ) →
    (IsEligiblePlace candidates now limits n → is_better (candidate_at candidates n) (candidate_at candidates best) ≡ false) → IsChoice candidates now limits n best →
    IsChoice candidates now limits (suc n) best
kept candidates now limits n best lost choice =
    record {
      place = let l = choice.place in omega arith;
      eligible = choice.eligible;
      none_better = λ i lt el better.
          ⊎_elim
          (λ l. choice.none_better i l el better)
          (λ same. ⊎_elim (λ h. let n_el : IsEligiblePlace candidates now limits n = rw (← same) el in let not = lost n_el in cc)
          (λ h. absurd (let l = choice.place in omega (arith, h.1))) better)
          (below_suc i n lt);
    }

further : (candidates : List Candidate) (now : ℕ) (limits : Limits) (n best : ℕ) (eligible better : Bool) → is_eligible now limits (candidate_at candidates n) ≡ eligible →
    is_better (candidate_at candidates n) (candidate_at candidates best) ≡ better → IsChoice candidates now limits n best →
    IsBest candidates now limits (suc n) (cond (eligible && better) (Some n) (Some best))
further candidates now limits n best true true e b choice = replaced candidates now limits n best e b choice
further candidates now limits n best true false e b choice = kept candidates now limits n best (λ _. b) choice
further candidates now limits n best false better e b choice = kept candidates now limits n best (λ el. cc) choice

more : (candidates : List Candidate) (now : ℕ) (limits : Limits) (n : ℕ) (choice : Option ℕ) → IsBest candidates now limits n choice →
    IsBest candidates now limits (suc n) (with_place candidates now limits choice n)
more candidates now limits n None none = first candidates now limits n (is_eligible now limits (candidate_at candidates n)) refl none
more candidates now limits n (Some best) choice =
    further candidates now limits n best (is_eligible now limits (candidate_at candidates n)) (is_better (candidate_at candidates n) (candidate_at candidates best)) refl refl
    choice

choice_below-best : (candidates : List Candidate) (now : ℕ) (limits : Limits) (n : ℕ) →
    MatchOption (choice_below candidates now limits n) (HasNoEligible candidates now limits n) (IsChoice candidates now limits n)
choice_below-best candidates now limits zero = λ i lt. absurd (omega arith)
choice_below-best candidates now limits (suc n) = more candidates now limits n (choice_below candidates now limits n) (choice_below-best candidates now limits n)

-- Said of the whole list

pub IsEligible-choice_of : (candidates : List Candidate) (now : ℕ) (limits : Limits) → IfSome (choice_of candidates now limits) (IsEligible candidates now limits)
IsEligible-choice_of candidates now limits = known (choice_of candidates now limits) (choice_below-best candidates now limits (length candidates))
  where
    known : (choice : Option ℕ) → IsBest candidates now limits (length candidates) choice → IfSome choice (IsEligible candidates now limits)
    known None best = tt
    known (Some place) best = (best.place, best.eligible)

pub none_better-choice_of : (candidates : List Candidate) (now : ℕ) (limits : Limits) →
    IfSome (choice_of candidates now limits) (λ best. (place : ℕ) → IsEligible candidates now limits place → ¬ IsBetter candidates place best)
none_better-choice_of candidates now limits = known (choice_of candidates now limits) (choice_below-best candidates now limits (length candidates))
  where
    known : (choice : Option ℕ) → IsBest candidates now limits (length candidates) choice →
        IfSome choice (λ best. (place : ℕ) → IsEligible candidates now limits place → ¬ IsBetter candidates place best)
    known None best = tt
    known (Some chosen) best = λ place eligible. best.none_better place eligible.0 eligible.1

pub IsNone-choice_of : (candidates : List Candidate) (now : ℕ) (limits : Limits) →
    IsNone (choice_of candidates now limits) ↔ ((place : ℕ) → ¬ IsEligible candidates now limits place)
IsNone-choice_of candidates now limits = known (choice_of candidates now limits) (choice_below-best candidates now limits (length candidates))
  where
    known : (choice : Option ℕ) → IsBest candidates now limits (length candidates) choice → IsNone choice ↔ ((place : ℕ) → ¬ IsEligible candidates now limits place)
    known None best = ((λ _ place eligible. let never = best place eligible.0 in let is = eligible.1 in cc), (λ _. refl))
    known (Some place) best = ((λ never. absurd (cc)), (λ none. absurd (none place (best.place, best.eligible))))
