-- The first test that fits, one test at a time.
use Rattle.std.proofs.Common.{◌≡◌, Bool, true, false, List, [], ◌∷◌, ◌++◌, refl, ◌∙◌, Option, Some, None}
use Rattle.std.specs.List.{AllByRecursion}
use Rattle.ballot_law.specs.declared.rosters.RosterFault.{RosterFault}
use Rattle.ballot_law.specs.Rosters.{Roster}
use Rattle.ballot_law.specs.RosterFaults.{first_tests, last_tests, fault_of}
use Rattle.ballot_law.specs.RosterFaults.{first_that_fits}

none_by : {F : Type 0} (b : Bool) (fault : F) (xs ys : List (Bool × F)) → first_that_fits ((b, fault) ∷ xs) ≡ None →
    (first_that_fits xs ≡ None → first_that_fits (xs ++ ys) ≡ first_that_fits ys)
    → first_that_fits ((b, fault) ∷ (xs ++ ys)) ≡ first_that_fits ys
none_by true fault xs ys h r = cc
none_by false fault xs ys h r = r h

none_before : {F : Type 0} (xs ys : List (Bool × F)) → first_that_fits xs ≡ None → first_that_fits (xs ++ ys) ≡ first_that_fits ys
none_before [] ys h = refl
none_before (x ∷ xs) ys h = none_by x.0 x.1 xs ys h (none_before xs ys)

some_by : {F : Type 0} (b : Bool) (fault f : F) (xs ys : List (Bool × F)) → first_that_fits ((b, fault) ∷ xs) ≡ Some f →
    (first_that_fits xs ≡ Some f → first_that_fits (xs ++ ys) ≡ Some f)
    → first_that_fits ((b, fault) ∷ (xs ++ ys)) ≡ Some f
some_by true fault f xs ys h r = h
some_by false fault f xs ys h r = r h

some_before : {F : Type 0} (f : F) (xs ys : List (Bool × F)) → first_that_fits xs ≡ Some f → first_that_fits (xs ++ ys) ≡ Some f
some_before f [] ys h = cc
some_before f (x ∷ xs) ys h = some_by x.0 x.1 f xs ys h (some_before f xs ys)

-- where no test fits, each fails
none_fits_by : {F : Type 0} (b : Bool) (fault : F) (rest : List (Bool × F)) → first_that_fits ((b, fault) ∷ rest) ≡ None → (b ≡ false) × (first_that_fits rest ≡ None)
none_fits_by true fault rest h = cc
none_fits_by false fault rest h = (refl, h)

pub none_fits : {F : Type 0} (ts : List (Bool × F)) → first_that_fits ts ≡ None → AllByRecursion (λ t. t.0 ≡ false) ts
none_fits [] h = tt
none_fits (t ∷ ts) h = let both = none_fits_by t.0 t.1 ts h in (both.0, none_fits ts both.1)

pub fault_first : (roster : Roster) (fault : RosterFault) → first_that_fits (first_tests roster) ≡ Some fault → fault_of roster ≡ Some fault
fault_first roster fault h = some_before fault (first_tests roster) (last_tests roster) h

pub fault_last : (roster : Roster) (answer : Option RosterFault) → first_that_fits (first_tests roster) ≡ None → first_that_fits (last_tests roster) ≡ answer →
    fault_of roster ≡ answer
fault_last roster answer h g = none_before (first_tests roster) (last_tests roster) h ∙ g
