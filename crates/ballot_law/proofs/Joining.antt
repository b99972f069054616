-- Runs and takes that go on.
use Rattle.std.proofs.Common.{ℕ, List, [], ◌∷◌, ◌++◌, sym, subst}
use Rattle.ballot_law.specs.declared.events.Event.{Event}
use Rattle.ballot_law.specs.Rosters.{Roster}
use Rattle.ballot_law.specs.Ballots.{Parts, Ballot, after, Moved}

-- single steps, and more of them
pub Moved-append : (roster : Roster) (i : ℕ) (event : Event) (xs ys : List Ballot) (first next last : Parts) → Moved roster i event xs first next →
    Moved roster i event ys next last → Moved roster i event (xs ++ ys) first last
Moved-append roster i event [] ys first next last p q = subst (λ (x : Parts). Moved roster i event ys x last) (sym p) q
Moved-append roster i event (x ∷ xs) ys first next last p q = (p.0, Moved-append roster i event xs ys (after i first x) next last p.1 q)
