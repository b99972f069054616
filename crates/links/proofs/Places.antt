-- Which node is at a place.
use Rattle.std.proofs.Common.{◌≡◌, ◌≢◌, ◌⊎◌, ℕ, ◌+◌, ◌*◌, ◌-◌, ◌/◌, ◌%◌, ◌<◌, ◌≤◌, Bool, true, false, cond, List, [], ◌∷◌, length, Option, Some, None, refl, ap, sym, ◌∙◌, subst, arith, inl, inr, nat_lt}
use Rattle.std.specs.Prelude.{IfSome, IfNone}
use Rattle.std.specs.Int.{from_bool}
use Rattle.std.specs.List.{sum_by}
use Rattle.std.proofs.lemmas.Bool.{ltb-true, ltb-false}
use Rattle.std.proofs.lemmas.List.Sums.{sum_by-cons}
use Rattle.std.proofs.Math.Nat.{div-add-mod, mod-lt}
use Rattle.ballot_law.specs.declared.messages.NodeName.{NodeName}
use Rattle.ballot_law.specs.declared.messages.NodeName.TheVariants.{SentinelAt, StoreAt, ClientAt, PortAt}
use Rattle.ballot_law.specs.NodePlaces.{node_count, node_numbered}
use Rattle.ballot_law.specs.Rosters.{Roster, MasterPlan, size}
use Rattle.links.specs.declared.target.Target.{Target}
use Rattle.links.specs.Targets.{place_of, connection_count, IsStore, IsOf}

-- the place of a Sentinel, where it is within the roster
sentinel_place : (count p place : ℕ) (within : Bool) → nat_lt p count ≡ within → cond within (Some p) None ≡ Some place → (p ≡ place) × (p < count)
sentinel_place count p place true e is = let same : p ≡ place = cc in (same, ltb-true p count e)
sentinel_place count p place false e is = absurd (let no : ⊥ = cc in no)

-- the place of a data node, where there is one with the number
store_place : (sentinels count k place : ℕ) (within : Bool) → cond within (Some (sentinels + 2 * k)) None ≡ Some place → place ≡ sentinels + 2 * k
store_place sentinels count k place true is = let same : sentinels + 2 * k ≡ place = cc in sym same
store_place sentinels count k place false is = absurd (let no : ⊥ = cc in no)

-- of two connections to one data node, the one that takes messages stands first
one_of_two : (sentinels number k place : ℕ) (listens : Bool) → place ≡ sentinels + 2 * k → place ≡ sentinels + (2 * number + from_bool listens)
    → (number ≡ k) × (listens ≡ false)
one_of_two sentinels number k place false e f = (omega (arith, e, f), refl)
one_of_two sentinels number k place true e f = absurd (omega (arith, e, f))

-- the connection at the place of a node is to that node alone
pub is_alone : (roster : Roster) (node : NodeName) (place : ℕ) (target : Target) → place_of roster node ≡ Some place → IsOf roster place target
    → (target.node ≡ node) × (target.listens ≡ false)
is_alone roster (SentinelAt p) place target e (inl s) =
    let at = sentinel_place (size roster) p place (nat_lt p (size roster)) refl e in
    (s.node ∙ ap SentinelAt (sym at.0), s.speaks)
is_alone roster (SentinelAt p) place target e (inr h) =
    let at = sentinel_place (size roster) p place (nat_lt p (size roster)) refl e in
    let same = at.0 in
    let within = at.1 in
    let there = h.1 in
    absurd (omega (arith, same, within, there))
is_alone roster (StoreAt k) place target e (inl s) =
    let at = store_place (size roster) (node_count roster) k place (nat_lt k (node_count roster)) e in
    let within = s.within in
    absurd (omega (arith, at, within))
is_alone roster (StoreAt k) place target e (inr h) =
    let at = store_place (size roster) (node_count roster) k place (nat_lt k (node_count roster)) e in
    let both = one_of_two (size roster) h.0 k place target.listens at h.1 in
    (h.2.node ∙ ap StoreAt both.0, both.1)
is_alone roster (ClientAt k) place target e h = absurd (let no : ⊥ = cc in no)
is_alone roster (PortAt k) place target e h = absurd (let no : ⊥ = cc in no)

-- each number below the count is that of a data node
number_step : (master : MasterPlan) (masters : List MasterPlan) (first number : ℕ) (here : Bool) → nat_lt number (length master.nodes) ≡ here
    → node_numbered (master ∷ masters) first number ≡ None
    → (node_numbered masters (first + 1) (number - length master.nodes) ≡ None
    → sum_by (λ (m : MasterPlan). length m.nodes) masters ≤ number - length master.nodes)
    → length master.nodes + sum_by (λ (m : MasterPlan). length m.nodes) masters ≤ number
number_step master masters first number true is e rest =
    let found : node_numbered (master ∷ masters) first number ≡ Some (record { master = first; place = number }) =
    ap (λ (b : Bool). cond b (Some (record { master = first; place = number })) (node_numbered masters (first + 1) (number - length master.nodes))) is in
    absurd (let no : ⊥ = cc in no)
number_step master masters first number false is e rest =
    let past : length master.nodes ≤ number = ltb-false number (length master.nodes) is in
    let later : node_numbered (master ∷ masters) first number ≡ node_numbered masters (first + 1) (number - length master.nodes) =
    ap (λ (b : Bool). cond b (Some (record { master = first; place = number })) (node_numbered masters (first + 1) (number - length master.nodes))) is in
    let below = rest (sym later ∙ e) in
    omega (arith, past, below)

numbered : (masters : List MasterPlan) (first number : ℕ) → node_numbered masters first number ≡ None
    → sum_by (λ (m : MasterPlan). length m.nodes) masters ≤ number
numbered [] first number e = omega arith
numbered (master ∷ masters) first number e =
    subst (λ (n : ℕ). n ≤ number) (sym (sum_by-cons (λ (m : MasterPlan). length m.nodes) master masters))
    (number_step master masters first number (nat_lt number (length master.nodes)) refl e (numbered masters (first + 1) (number - length master.nodes)))

pub is_numbered : (roster : Roster) (number : ℕ) → node_numbered roster.masters 0 number ≡ None → node_count roster ≤ number
is_numbered roster number e = numbered roster.masters 0 number e

-- a number by its half, and whether it is odd
halves : (n : ℕ) (odd : Bool) → nat_lt (2 * (n / 2)) n ≡ odd → n ≡ 2 * (n / 2) + from_bool odd
halves n true e =
    let whole = div-add-mod n 2 in
    let small : n % 2 < 2 = mod-lt n (omega arith) in
    let more : 2 * (n / 2) < n = ltb-true (2 * (n / 2)) n e in
    omega (arith, whole, small, more)
halves n false e =
    let whole = div-add-mod n 2 in
    let no_more : n ≤ 2 * (n / 2) = ltb-false (2 * (n / 2)) n e in
    omega (arith, whole, no_more)

at_place : (sentinels place after : ℕ) (odd : Bool) → sentinels ≤ place → after ≡ place - sentinels → nat_lt (2 * (after / 2)) after ≡ odd
    → place ≡ sentinels + (2 * (after / 2) + from_bool odd)
at_place sentinels place after odd past is e =
    let h = halves after odd e in
    omega (arith, past, is, h)

-- the connections to data nodes stand after those to Sentinels, two to each
pub is_at : (roster : Roster) (place after : ℕ) (found : Option Target) → size roster ≤ place → after ≡ place - size roster
    → IfSome found (IsStore roster (after / 2)) → IfSome found (λ target. target.listens ≡ nat_lt (2 * (after / 2)) after) → IfSome found (IsOf roster place)
is_at roster place after None past is store listens = tt
is_at roster place after (Some target) past is store listens = inr (after / 2, at_place (size roster) place after target.listens past is (sym listens), store)

pub is_past : (roster : Roster) (own place after : ℕ) (found : Option Target) → size roster ≤ place → after ≡ place - size roster
    → IfNone found (node_count roster ≤ after / 2) → IfNone found ((place ≡ own) ⊎ (connection_count roster ≤ place))
is_past roster own place after None past is most =
    let whole = div-add-mod after 2 in
    inr (omega (arith, past, is, most, whole))
is_past roster own place after (Some target) past is most = tt

pub is_other : (roster : Roster) (own number : ℕ) (found : Option Target) → IfSome found (IsStore roster number)
    → IfSome found (λ target. target.node ≢ SentinelAt own)
is_other roster own number None store = tt
is_other roster own number (Some target) store = λ e. let both = sym store.node ∙ e in let no : ⊥ = cc in no
