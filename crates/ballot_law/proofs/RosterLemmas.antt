-- What is known of each roster: no two of its Sentinels have one run id, no two of its masters one name, and so a name
-- has one number.
use Rattle.std.proofs.Common.{◌≡◌, ◌≢◌, ℕ, zero, suc, ◌+◌, ◌<◌, Bool, true, false, Option, Some, None, List, [], ◌∷◌, length, map, get_or, refl, ap, sym, ◌∙◌, subst, arith}
use Rattle.std.specs.Prelude.{IfSome, IfNone}
use Rattle.std.proofs.lemmas.Bool.{true≢false}
use mathlib.Core.Logic.{∥∥₁_elim}
use native.Mathlib.Nat.{ℕ_set}
use Rattle.ballot_law.specs.declared.rosters.Member.{Member}
use Rattle.ballot_law.specs.Orders.{same_bytes, id_before, bytes_before}
use Rattle.ballot_law.specs.Rosters.{Roster, MasterPlan, no_member, no_master, nodes_in_order, ordered, master_at, number_named, master_named, HasDistinctIds, HasDistinctNames}
use Rattle.ballot_law.specs.RosterFaults.{IsMade, IsRoster}
use Rattle.ballot_law.proofs.WordLemmas.{same_bytes-refl, same_bytes-true}
use Rattle.ballot_law.proofs.Rising.{in_order_apart, id_strict, bytes_strict}

made_ids : (roster given : Roster) → roster ≡ ordered given → HasDistinctIds roster
made_ids roster given e =
    subst HasDistinctIds (sym e) (λ i j k l f. in_order_apart (λ (a : Member). a.id) id_before id_strict given.sentinels no_member i j k l f)

made_names : (roster given : Roster) → roster ≡ ordered given → HasDistinctNames roster
made_names roster given e =
    subst HasDistinctNames (sym e)
    (λ m n k l f. in_order_apart (λ (a : MasterPlan). a.name) bytes_before bytes_strict (map nodes_in_order given.masters) no_master m n k l f)

pub distinct_ids : (roster : Roster) → IsRoster roster → HasDistinctIds roster
distinct_ids roster known i j k l f =
    ∥∥₁_elim known.made (ℕ_set i j) (λ (made : IsMade roster). made_ids roster made.given made.in_order i j k l f)

pub distinct_names : (roster : Roster) → IsRoster roster → HasDistinctNames roster
distinct_names roster known m n k l f =
    ∥∥₁_elim known.made (ℕ_set m n) (λ (made : IsMade roster). made_names roster made.given made.in_order m n k l f)

-- the number that a search gives, counted from where it began
record IsNamed (first : ℕ) (name : List ℕ) (masters : List MasterPlan) (m : ℕ) : Type 0 where
  pub place : ℕ
  pub from : m ≡ first + place
  pub inside : place < length masters
  pub named : (get_or masters place no_master).name ≡ name

named_later : (first : ℕ) (name : List ℕ) (master : MasterPlan) (masters : List MasterPlan) (m : ℕ) → IsNamed (first + 1) name masters m → IsNamed first name (master ∷ masters) m
named_later first name master masters m n =
    record {
      place = suc n.place;
      from = let e : m ≡ first + 1 + n.place = n.from in omega arith;
      inside = let l : n.place < length masters = n.inside in omega arith;
      named = n.named;
    }

named_by : (first : ℕ) (name : List ℕ) (master : MasterPlan) (masters : List MasterPlan) (m : ℕ) (test : Bool) → same_bytes name master.name ≡ test
    → elim test as (λ _. Option ℕ) [ true ↦ Some first | false ↦ number_named (first + 1) name masters ] ≡ Some m
    → (number_named (first + 1) name masters ≡ Some m → IsNamed (first + 1) name masters m) → IsNamed first name (master ∷ masters) m
named_by first name master masters m true e h more =
    let at : first ≡ m = cc in
    record { place = zero; from = omega arith; inside = omega arith; named = sym (same_bytes-true name master.name e) }
named_by first name master masters m false e h more = named_later first name master masters m (more h)

number_is : (first : ℕ) (name : List ℕ) (masters : List MasterPlan) (m : ℕ) → number_named first name masters ≡ Some m → IsNamed first name masters m
number_is first name [] m h = absurd (cc)
number_is first name (master ∷ masters) m h =
    named_by first name master masters m (same_bytes name master.name) refl h (number_is (first + 1) name masters m)

none_by : (first : ℕ) (name : List ℕ) (master : MasterPlan) (masters : List MasterPlan) (test : Bool) → same_bytes name master.name ≡ test
    → elim test as (λ _. Option ℕ) [ true ↦ Some first | false ↦ number_named (first + 1) name masters ] ≡ None
    → (number_named (first + 1) name masters ≡ None → (k : ℕ) → k < length masters → (get_or masters k no_master).name ≢ name)
    → (k : ℕ) → k < length masters + 1 → (get_or (master ∷ masters) k no_master).name ≢ name
none_by first name master masters true e h more k l f = absurd (cc)
none_by first name master masters false e h more zero l f =
    true≢false (sym (same_bytes-refl name) ∙ ap (same_bytes name) (sym f) ∙ e)
none_by first name master masters false e h more (suc k) l f = more h k (omega arith) f

none_is : (first : ℕ) (name : List ℕ) (masters : List MasterPlan) → number_named first name masters ≡ None → (k : ℕ) → k < length masters → (get_or masters k no_master).name ≢ name
none_is first name [] h k l f = absurd (omega arith)
none_is first name (master ∷ masters) h k l f =
    none_by first name master masters (same_bytes name master.name) refl h (none_is (first + 1) name masters) k (omega arith) f

-- the master with the number that a name has bears the name
pub named_master : (roster : Roster) (name : List ℕ) (m : ℕ) → master_named roster name ≡ Some m → (m < length roster.masters) × ((master_at roster m).name ≡ name)
named_master roster name m h =
    let n : IsNamed 0 name roster.masters m = number_is 0 name roster.masters m h in
    let at : n.place ≡ m = let e : m ≡ 0 + n.place = n.from in omega arith in
    (subst (λ (k : ℕ). k < length roster.masters) at n.inside, subst (λ (k : ℕ). (master_at roster k).name ≡ name) at n.named)

-- a name that has no number is no master's
pub unnamed_masters : (roster : Roster) (name : List ℕ) → master_named roster name ≡ None → (m : ℕ) → m < length roster.masters → (master_at roster m).name ≢ name
unnamed_masters roster name h m l = none_is 0 name roster.masters h m l

named_as : (roster : Roster) (name : List ℕ) (m : ℕ) (found : Option ℕ) → HasDistinctNames roster → m < length roster.masters → (master_at roster m).name ≡ name →
    master_named roster name ≡ found → found ≡ Some m
named_as roster name m None distinct l f h = absurd (unnamed_masters roster name h m l f)
named_as roster name m (Some k) distinct l f h =
    let at = named_master roster name k h in
    ap Some (distinct k m at.0 l (at.1 ∙ sym f))

-- the number of a master's name
pub number_of_name : (roster : Roster) (name : List ℕ) (m : ℕ) → HasDistinctNames roster → m < length roster.masters → (master_at roster m).name ≡ name →
    master_named roster name ≡ Some m
number_of_name roster name m distinct l f = named_as roster name m (master_named roster name) distinct l f refl

no_number_by : (roster : Roster) (name : List ℕ) (found : Option ℕ) → ((m : ℕ) → m < length roster.masters → (master_at roster m).name ≢ name) → master_named roster name ≡ found →
    found ≡ None
no_number_by roster name None none h = refl
no_number_by roster name (Some m) none h = let at = named_master roster name m h in absurd (none m at.0 at.1)

-- a name that is no master's has no number
pub no_number_of_name : (roster : Roster) (name : List ℕ) → ((m : ℕ) → m < length roster.masters → (master_at roster m).name ≢ name) → master_named roster name ≡ None
no_number_of_name roster name none = no_number_by roster name (master_named roster name) none refl

-- what a search by name finds is that number
pub named_in : (roster : Roster) (name : List ℕ) (found : Option ℕ) → HasDistinctNames roster
    → IfSome found (λ m. (m < length roster.masters) × ((master_at roster m).name ≡ name))
    → IfNone found ((m : ℕ) → m < length roster.masters → (master_at roster m).name ≢ name)
    → found ≡ master_named roster name
named_in roster name None distinct some none = sym (no_number_of_name roster name none)
named_in roster name (Some m) distinct some none = sym (number_of_name roster name m distinct some.0 some.1)
