-- The connections of a Sentinel are those of its roster.
use Rattle.std.proofs.Common.{◌≡◌, ◌∙◌, ◌⊎◌, ⊎_elim, ℕ, zero, suc, ◌+◌, ◌<◌, ◌≤◌, take, get_or, List, [], ◌∷◌, ◌++◌, length, Option, Some, None, ap, arith, sym, subst}
use Rattle.std.specs.List.{AllByRecursion}
use Rattle.std.proofs.lemmas.List.{length-append, length-map, map-append}
use Rattle.std.proofs.Math.Seq.{take-suc}
use mathlib.Core.Logic.{∥∥₁_elim, ∥∥₁_map, ∥∥₁_prop}
use Rattle.ballot_law.specs.Rosters.{Roster}
use Rattle.links.specs.declared.target.Target.{Target}
use Rattle.links.specs.Targets.{connection_count}
use Rattle.tcp_transport.specs.Places.{IsOfRoster, IsAt, AreFrom, AreOf, IsReached, target_at, targets_of}

-- within the places, the own one alone has no connection
pub own_has_none : (roster : Roster) (own place : ℕ) → place < connection_count roster → (place ≡ own) ⊎ (connection_count roster ≤ place) → place ≡ own
own_has_none roster own place within none =
    ⊎_elim (λ (is : place ≡ own). is) (λ (past : connection_count roster ≤ place). absurd (omega (arith, within, past))) none

-- the next place gets its connection
pub from_more : (roster : Roster) (own place next : ℕ) (targets : List (Option Target)) (one : Option Target) → next ≡ place + length targets
    → AreFrom roster own place targets → IsAt roster own next one → AreFrom roster own place (targets ++ one ∷ [])
from_more roster own place next [] one is each at = (subst (λ (n : ℕ). IsAt roster own n one) (omega (arith, is)) at, tt)
from_more roster own place next (target ∷ targets) one is each at =
    (each.0, from_more roster own (place + 1) next targets one (omega (arith, is)) each.1 at)

-- one more plan
pub planned_more : {A : Type 0} (to : A → Target) (roster : Roster) (own place : ℕ) (plans more : List (Option A)) (one : Option A) → more ≡ plans ++ one ∷ []
    → (length plans ≡ place) × AreFrom roster own 0 (targets_of to plans) → IsAt roster own place (target_at to one)
    → (length more ≡ place + 1) × AreFrom roster own 0 (targets_of to more)
planned_more {A} to roster own place plans more one is so_far at =
    subst (λ (all : List (Option A)). (length all ≡ place + 1) × AreFrom roster own 0 (targets_of to all)) (sym is) (
      (let longer = length-append plans (one ∷ []) in let before = so_far.0 in omega (arith, longer, before)),
      subst (AreFrom roster own 0) (sym (map-append (target_at to) plans (one ∷ [])))
          (let same = length-map plans (target_at to) in let before = so_far.0 in from_more roster own 0 place (targets_of to plans) (target_at to one) (omega (arith, same, before)) so_far.1 at),
    )

-- one more connection of those that are planned
pub made_more : {A B : Type 0} (to : A → Target) (from : B → Target) (plans : List (Option A)) (k : ℕ) (d : Option A) (made more : List (Option B)) (one : Option B)
    → k < length plans → more ≡ made ++ one ∷ [] → targets_of from made ≡ targets_of to (take k plans) → target_at from one ≡ target_at to (get_or plans k d)
    → targets_of from more ≡ targets_of to (take (k + 1) plans)
made_more to from plans k d made more one lt is so_far same =
    let plus : k + 1 ≡ suc k = omega arith in
    let next : take (k + 1) plans ≡ take k plans ++ get_or plans k d ∷ [] = ap (λ (n : ℕ). take n plans) plus ∙ take-suc plans k d lt in
    ap (targets_of from) is
    ∙ (map-append (target_at from) made (one ∷ [])
    ∙ (ap (λ (x : List (Option Target)). x ++ target_at from one ∷ []) so_far
    ∙ (ap (λ (x : Option Target). targets_of to (take k plans) ++ x ∷ []) same
    ∙ (sym (map-append (target_at to) (take k plans) (get_or plans k d ∷ [])) ∙ ap (targets_of to) (sym next)))))

-- where all may be reached, so may the one at a place
pub reached_here : {A : Type 0} (to : A → Target) (reaches : Target → Type 0) (plans : List (Option A)) (k : ℕ) (d : Option A) → k < length plans
    → AllByRecursion (IsReached reaches) (targets_of to plans) → IsReached reaches (target_at to (get_or plans k d))
reached_here to reaches [] k d lt all = absurd (omega (arith, lt))
reached_here to reaches (plan ∷ plans) zero d lt all = all.0
reached_here to reaches (plan ∷ plans) (suc k) d lt all = reached_here to reaches plans k d (omega (arith, lt)) all.1

-- a connection may be to where each of them is
reached_at : (roster : Roster) (own place : ℕ) (reaches : Target → Type 0) (one : Option Target)
    → ((target : Target) → IsOfRoster roster target → ∥ reaches target ∥₁) → ∥ IsAt roster own place one ∥₁ → IsReached reaches one
reached_at roster own place reaches None may at = tt
reached_at roster own place reaches (Some target) may at = ∥∥₁_elim at ∥∥₁_prop (λ a. may target (place, a.0))

reached_from : (roster : Roster) (own place : ℕ) (reaches : Target → Type 0) (targets : List (Option Target))
    → ((target : Target) → IsOfRoster roster target → ∥ reaches target ∥₁) → ∥ AreFrom roster own place targets ∥₁
    → AllByRecursion (IsReached reaches) targets
reached_from roster own place reaches [] may each = tt
reached_from roster own place reaches (target ∷ targets) may each = (
  reached_at roster own place reaches target may (∥∥₁_map each (λ e. e.0)),
  reached_from roster own (place + 1) reaches targets may (∥∥₁_map each (λ e. e.1)),
)

pub all_reached : (roster : Roster) (own : ℕ) (reaches : Target → Type 0) (targets : List (Option Target))
    → ((target : Target) → IsOfRoster roster target → ∥ reaches target ∥₁) → ∥ AreOf roster own targets ∥₁ → AllByRecursion (IsReached reaches) targets
all_reached roster own reaches targets may are = reached_from roster own 0 reaches targets may (∥∥₁_map are (λ a. a.each))
