-- Actions of each process by itself are actions of all.
use Rattle.std.proofs.Common.{◌≡◌, ◌≢◌, ℕ, ◌<◌, Bool, cond, List, [], ◌∷◌, ◌++◌, sym, ap, subst, eq-eqb, ne_eqb, refl}
use mathlib.Core.Logic.{dite}
use native.Mathlib.Decide.{ℕ_discrete}
use Rattle.ballot_law.specs.Rosters.{Roster, size}
use Rattle.process_laws.specs.Actions.{Action, Opened, Took, Told, Process, action_after, sent_by}
use Rattle.process_laws.specs.OwnActions.{place_of, own_of, own_after, AreOwnActions, OwnActionsAreActions}
use Rattle.process_laws.proofs.Heard.{with_one}

-- the first action is of this place
first_own : (i : ℕ) (d : Action) (ds : List Action) → place_of d ≡ i → own_of i (d ∷ ds) ≡ d ∷ own_of i ds
first_own i d ds same = ap (λ (b : Bool). cond b (d ∷ own_of i ds) (own_of i ds)) (eq-eqb (place_of d) i same)

-- or of another one
first_other : (i : ℕ) (d : Action) (ds : List Action) → place_of d ≢ i → own_of i (d ∷ ds) ≡ own_of i ds
first_other i d ds apart = ap (λ (b : Bool). cond b (d ∷ own_of i ds) (own_of i ds)) (ne_eqb (place_of d) i apart)

abbrev AreOwn : Roster → (ℕ → Process) → List Action → Type 0
AreOwn roster all ds = (i : ℕ) → i < size roster → AreOwnActions roster (all i) (own_of i ds)

-- what is asked of the first action, and of those of its place after it
here : (roster : Roster) (all : ℕ → Process) (d : Action) (ds : List Action) → place_of d < size roster → AreOwn roster all (d ∷ ds)
    → AreOwnActions roster (all (place_of d)) (d ∷ own_of (place_of d) ds)
here roster all d ds low own =
    subst (λ (l : List Action). AreOwnActions roster (all (place_of d)) l) (first_own (place_of d) d ds refl) (own (place_of d) low)

elsewhere : (roster : Roster) (all : ℕ → Process) (d : Action) (ds : List Action) → AreOwn roster all (d ∷ ds) → (j : ℕ) → j < size roster → j ≢ place_of d
    → AreOwnActions roster (all j) (own_of j ds)
elsewhere roster all d ds own j low apart =
    subst (λ (l : List Action). AreOwnActions roster (all j) l) (first_other j d ds (λ e. apart (sym e))) (own j low)

-- what is left to ask after an action
rest_own : (roster : Roster) (all : ℕ → Process) (d : Action) (ds : List Action) → place_of d < size roster → AreOwn roster all (d ∷ ds) → AreOwn roster (action_after all d) ds
rest_own roster all (Opened i w now) ds few own j low =
    let d = Opened i w now in
    with_one (λ k p. AreOwnActions roster p (own_of k ds)) all i (own_after (all i) d) j (here roster all d ds few own).1 (elsewhere roster all d ds own j low)
rest_own roster all (Took i e asker left) ds few own j low =
    let d = Took i e asker left in
    with_one (λ k p. AreOwnActions roster p (own_of k ds)) all i (own_after (all i) d) j (here roster all d ds few own).1 (elsewhere roster all d ds own j low)
rest_own roster all (Told i m) ds few own j low =
    dite (ℕ_discrete j i)
    (λ (same : j ≡ i). subst (λ (k : ℕ). AreOwnActions roster (all k) (own_of k ds)) (sym same) (here roster all (Told i m) ds few own).1)
    (λ (apart : j ≢ i). elsewhere roster all (Told i m) ds own j low apart)

pub own_actions_are_actions : OwnActionsAreActions
own_actions_are_actions roster stores all messages [] few own hear = tt
own_actions_are_actions roster stores all messages (Opened i w now ∷ ds) few own hear =
    let d = Opened i w now in (
      (few.0, (here roster all d ds few.0 own).0),
      own_actions_are_actions roster stores (action_after all d) (messages ++ sent_by d) ds few.1 (rest_own roster all d ds few.0 own) hear.1,
    )
own_actions_are_actions roster stores all messages (Took i e asker left ∷ ds) few own hear =
    let d = Took i e asker left in
    let step = (here roster all d ds few.0 own).0 in (
      (few.0, step.0, step.1, hear.0),
      own_actions_are_actions roster stores (action_after all d) (messages ++ sent_by d) ds few.1 (rest_own roster all d ds few.0 own) hear.1,
    )
own_actions_are_actions roster stores all messages (Told i m ∷ ds) few own hear =
    let d = Told i m in
    let told = (here roster all d ds few.0 own).0 in (
      (few.0, told.0, told.1),
      own_actions_are_actions roster stores (action_after all d) (messages ++ sent_by d) ds few.1 (rest_own roster all d ds few.0 own) hear.1,
    )
