-- Lists within others have no more data nodes.
use Rattle.std.proofs.Common.{◌≡◌, ◌≢◌, ◌&&◌, ℕ, suc, ◌+◌, ◌<◌, ◌≤◌, Bool, true, false, List, [], ◌∷◌, length, refl, ap, arith}
use Rattle.std.specs.Prelude.{Contains, slice_index_or}
use Rattle.std.specs.Cmp.{IsEquivalence}
use Rattle.std.specs.List.{fold, AllZip, AllByRecursion, IsDistinct}
use Rattle.std.proofs.lemmas.Cmp.{nat_eq_equiv}
use Rattle.std.proofs.lemmas.Map.Made.{length-le_from_is_member}
use Rattle.std.proofs.lemmas.Map.Views.{Contains-from_any, list_any-from_Contains}
use Rattle.ballot_law.specs.declared.addresses.Addr.{Addr}
use Rattle.ballot_law.specs.Orders.{same_addr}
use Rattle.ballot_law.specs.Rosters.{MasterPlan, no_addr, no_master}
use Rattle.sentinel_rules.proofs.Choices.{same_addr-equal}
use Rattle.process_laws.specs.Differing.{IsMasterWithin}
use Rattle.process_laws.specs.OwnLists.{NumbersFit}

and_same : {a b x y : Bool} → a ≡ x → b ≡ y → (a && b) ≡ (x && y)
and_same e f = cc

addr_equiv : IsEquivalence same_addr
addr_equiv =
    record {
      refl = λ x. and_same (nat_eq_equiv.refl x.ip) (nat_eq_equiv.refl x.port);
      symm = λ x y. and_same (nat_eq_equiv.symm x.ip y.ip) (nat_eq_equiv.symm x.port y.port);
      congr = λ x y z h. ap (λ a. same_addr a z) (same_addr-equal x y h);
    }

-- no two places have one address
abbrev Apart : List Addr → Type 0
Apart nodes = (j k : ℕ) → j < k → k < length nodes → slice_index_or nodes j no_addr ≢ slice_index_or nodes k no_addr

not_same : (x y : Addr) → x ≢ y → same_addr x y ≡ false
not_same x y apart = known (same_addr x y) refl
  where
    known : (b : Bool) → same_addr x y ≡ b → b ≡ false
    known true e = absurd (apart (same_addr-equal x y e))
    known false e = refl

none_same : (x : Addr) (nodes : List Addr) → ((k : ℕ) → k < length nodes → x ≢ slice_index_or nodes k no_addr) → AllByRecursion (λ (y : Addr). same_addr x y ≡ false) nodes
none_same x [] apart = tt
none_same x (y ∷ ys) apart = (not_same x y (apart 0 (omega arith)), none_same x ys (λ k low. apart (suc k) (omega arith)))

distinct_nodes : (nodes : List Addr) → Apart nodes → IsDistinct same_addr nodes
unfolding IsDistinct
distinct_nodes [] apart = tt
distinct_nodes (x ∷ xs) apart =
    (none_same x xs (λ k low. apart 0 (suc k) (omega arith) (omega arith)), distinct_nodes xs (λ j k less low. apart (suc j) (suc k) (omega arith) (omega arith)))

fewer : (nodes more : List Addr) → Apart nodes → ((addr : Addr) → Contains nodes addr → Contains more addr) → length nodes ≤ length more
fewer nodes more apart each =
    length-le_from_is_member addr_equiv nodes more (distinct_nodes nodes apart)
    (λ addr h. list_any-from_Contains addr_equiv addr more (each addr (Contains-from_any same_addr-equal addr nodes h)))

abbrev added : ℕ → MasterPlan → ℕ
added count master = count + length master.nodes

no_more : (xs ys : List MasterPlan) (a b : ℕ) → a ≤ b → AllZip IsMasterWithin xs ys → ((m : ℕ) → m < length xs → Apart (slice_index_or xs m no_master).nodes) →
    fold added a xs ≤ fold added b ys
no_more [] [] a b less z apart = less
no_more [] (y ∷ ys) a b less z apart = absurd z
no_more (x ∷ xs) [] a b less z apart = absurd z
no_more (x ∷ xs) (y ∷ ys) a b less z apart =
    let few : length x.nodes ≤ length y.nodes = fewer x.nodes y.nodes (apart 0 (omega arith)) z.0.nodes in
    no_more xs ys (added a x) (added b y) (omega (arith, less, few)) z.1 (λ m low. apart (suc m) (omega arith))

pub numbers_fit : NumbersFit
numbers_fit conf whole sound d = no_more conf.roster.masters whole.masters 0 0 (omega arith) d.1 (λ m low j k less short. sound.nodes m j k low less short)
