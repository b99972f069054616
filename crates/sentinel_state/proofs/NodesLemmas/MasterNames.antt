-- The number of a master's name.
use Rattle.std.proofs.Common.{◌≡◌, ◌≢◌, ℕ, ◌<◌, Option, List, length, sym, subst}
use Rattle.std.specs.Prelude.{IfSome, IfNone}
use Rattle.ballot_law.specs.Rosters.{Roster, master_at, master_named, HasDistinctNames}
use Rattle.ballot_law.proofs.RosterLemmas.{named_in}

-- the number that a search by name finds
pub found_named : (roster given : Roster) (name : List ℕ) (found : Option ℕ) → given ≡ roster → HasDistinctNames roster
    → IfSome found (λ m. (m < length given.masters) × ((master_at given m).name ≡ name))
    → IfNone found ((m : ℕ) → m < length given.masters → (master_at given m).name ≢ name)
    → found ≡ master_named roster name
found_named roster given name found e distinct some none =
    subst (λ (r : Roster). found ≡ master_named r name) e (named_in given name found (subst HasDistinctNames (sym e) distinct) some none)
