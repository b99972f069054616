-- What puts a list in order keeps its elements where no two of them tie, so a roster is in order and has the members that were given.
use Rattle.std.proofs.Common.{◌≡◌, ℕ, ◌+◌, Bool, true, false, ◌||◌, ◌&&◌, eqb, ltb, List, [], ◌∷◌, ◌++◌, get_or, map, None, refl, sym, ◌∙◌, subst, arith}
use Rattle.std.specs.List.{list_any, flat_map, All, AllZip}
use Rattle.std.specs.List.Sorted.{IsSortedBy, IsPermutation}
use Rattle.std.proofs.lemmas.Bool.{or_parts, or_from, or_cases, and_right, true≢false}
use Rattle.std.proofs.lemmas.Bool.Decides.{nat_tests}
use Rattle.std.proofs.lemmas.List.Elements.{All-nil, All-cons, All-head, All-tail, All-get_or}
use Rattle.std.proofs.lemmas.List.Sorted.{IsPermutation-refl, IsPermutation-trans, IsPermutation-cons, IsPermutation-middle}
use Rattle.ballot_law.specs.declared.addresses.Addr.{Addr}
use Rattle.ballot_law.specs.declared.rosters.Member.{Member}
use Rattle.ballot_law.specs.Ordered.{add, in_order, repeats}
use Rattle.ballot_law.specs.Orders.{same_addr, same_id, same_bytes, addr_before, id_before, bytes_before}
use Rattle.ballot_law.specs.Rosters.{Roster, MasterPlan, no_master, nodes_in_order, ordered}
use Rattle.ballot_law.specs.RosterFaults.{tests, fault_of}
use Rattle.ballot_law.specs.RosterOrder.{IsInOrder, IsSameMaster, HasSameMembers}
use Rattle.ballot_law.proofs.Fits.{none_fits}
use Rattle.ballot_law.proofs.Placing.{add_at, add_before, in_order_all}
use Rattle.ballot_law.proofs.Rising.{IsStrict, in_order_rises, rises_at, strict_by, first_then_on, less_not, less_on, id_strict, bytes_strict}

module _ {X : Type 0} (before : X → X → Bool) where
  -- one of the two stands before the other
  abbrev one_first : X → X → Bool
  one_first x y = before x y || before y x

  -- no two tie
  abbrev Apart : List X → Type 0
  Apart [] = Unit {0}
  Apart (x ∷ xs) = All (λ y. one_first x y ≡ true) xs × Apart xs

  added_by : (x y : X) (ys : List X) (s t : Bool) → before y x ≡ s → before x y ≡ t → one_first x y ≡ true → IsPermutation (x ∷ ys) (add before x ys) →
      IsPermutation (x ∷ y ∷ ys) (add before x (y ∷ ys))
  added_by x y ys true t e f h p =
      subst (IsPermutation (x ∷ y ∷ ys)) (sym (add_at before x y ys e)) (IsPermutation-trans _ _ _ (IsPermutation-middle (x ∷ []) y ys) (IsPermutation-cons y _ _ p))
  added_by x y ys false true e f h p = subst (IsPermutation (x ∷ y ∷ ys)) (sym (add_before before x y ys e f)) (IsPermutation-refl (x ∷ y ∷ ys))
  added_by x y ys false false e f h p = absurd (true≢false (sym h ∙ or_from (before x y) (before y x) f e))

  added : (x : X) (ys : List X) → All (λ y. one_first x y ≡ true) ys → IsPermutation (x ∷ ys) (add before x ys)
  added x [] h = IsPermutation-refl (x ∷ [])
  added x (y ∷ ys) h =
      added_by x y ys (before y x) (before x y) refl refl (All-head (λ z. one_first x z ≡ true) y ys h) (added x ys (All-tail (λ z. one_first x z ≡ true) y ys h))

  in_order_permutes : (xs : List X) → Apart xs → IsPermutation xs (in_order before xs)
  in_order_permutes [] a = IsPermutation-refl []
  in_order_permutes (x ∷ xs) a =
      IsPermutation-trans _ _ _ (IsPermutation-cons x xs (in_order before xs) (in_order_permutes xs a.1))
      (added x (in_order before xs) (in_order_all before (λ y. one_first x y ≡ true) xs a.0))

  module _ (same : X → X → Bool) (total : (x y : X) → same x y ≡ false → one_first x y ≡ true) where
    apart_from : (x : X) (xs : List X) → list_any (same x) xs ≡ false → All (λ y. one_first x y ≡ true) xs
    apart_from x [] h = All-nil (λ y. one_first x y ≡ true)
    apart_from x (y ∷ ys) h =
        let both = or_parts (same x y) (list_any (same x) ys) h in
        All-cons (λ z. one_first x z ≡ true) y ys (total x y both.0) (apart_from x ys both.1)

    apart_of : (xs : List X) → repeats same xs ≡ false → Apart xs
    apart_of [] h = tt
    apart_of (x ∷ xs) h = let both = or_parts (list_any (same x) xs) (repeats same xs) h in (apart_from x xs both.0, apart_of xs both.1)

  module _ (o : IsStrict before) where
    not_back : (x y : X) (t : Bool) → before y x ≡ t → before x y ≡ true → t ≡ false
    not_back x y true e f = absurd (true≢false (sym (o.transitive x y x f e) ∙ o.irreflexive x))
    not_back x y false e f = refl

    in_order_sorted : (xs : List X) → IsSortedBy before (in_order before xs)
    in_order_sorted xs k d l m =
        let ys : List X = in_order before xs in
        not_back (get_or ys k d) (get_or ys (k + 1) d) _ refl (rises_at before o ys d k (k + 1) (in_order_rises before o xs) (omega arith) m)

-- of two numbers, of pairs of numbers and of texts that aren't the same one stands before the other
pair_total : (p q r s : ℕ) → (eqb p r && eqb q s) ≡ false → ((ltb p r || (eqb p r && ltb q s)) || (ltb r p || (eqb r p && ltb s q))) ≡ true
pair_total p q r s h = grind (arith, nat_tests)

first_total : (x y : ℕ) (s a b : Bool) → (s ≡ false → (a || b) ≡ true) → (eqb x y && s) ≡ false → ((ltb x y || (eqb x y && a)) || (ltb y x || (eqb y x && b))) ≡ true
first_total x y true a b t h = grind (arith, nat_tests)
first_total x y false a b t h = let f = t refl in grind (arith, nat_tests)

bytes_total : (xs ys : List ℕ) → same_bytes xs ys ≡ false → (bytes_before xs ys || bytes_before ys xs) ≡ true
bytes_total [] [] h = cc
bytes_total [] (y ∷ ys) h = refl
bytes_total (x ∷ xs) [] h = refl
bytes_total (x ∷ xs) (y ∷ ys) h = first_total x y (same_bytes xs ys) (bytes_before xs ys) (bytes_before ys xs) (bytes_total xs ys) h

addr_strict : IsStrict addr_before
addr_strict = record {
  irreflexive = λ a. or_from (ltb a.ip a.ip) (eqb a.ip a.ip && ltb a.port a.port) (less_not a.ip) (and_right (eqb a.ip a.ip) (ltb a.port a.port) (less_not a.port));
  transitive = λ a b c h k.
      first_then_on a.ip b.ip c.ip (ltb a.port b.port) (ltb b.port c.port) (ltb a.port c.port) (less_on a.port b.port c.port)
      (or_cases (ltb a.ip b.ip) (eqb a.ip b.ip && ltb a.port b.port) h) (or_cases (ltb b.ip c.ip) (eqb b.ip c.ip && ltb b.port c.port) k);
}

-- a list of which no element repeats another: its parts
any_front : {X : Type 0} (p : X → Bool) (xs ys : List X) → list_any p (xs ++ ys) ≡ false → list_any p xs ≡ false
any_front p [] ys h = refl
any_front p (x ∷ xs) ys h = let both = or_parts (p x) (list_any p (xs ++ ys)) h in or_from (p x) (list_any p xs) both.0 (any_front p xs ys both.1)

module _ {X : Type 0} (same : X → X → Bool) where
  repeats_front : (xs ys : List X) → repeats same (xs ++ ys) ≡ false → repeats same xs ≡ false
  repeats_front [] ys h = refl
  repeats_front (x ∷ xs) ys h =
      let both = or_parts (list_any (same x) (xs ++ ys)) (repeats same (xs ++ ys)) h in
      or_from (list_any (same x) xs) (repeats same xs) (any_front (same x) xs ys both.0) (repeats_front xs ys both.1)

  repeats_back : (xs ys : List X) → repeats same (xs ++ ys) ≡ false → repeats same ys ≡ false
  repeats_back [] ys h = h
  repeats_back (x ∷ xs) ys h = repeats_back xs ys (or_parts (list_any (same x) (xs ++ ys)) (repeats same (xs ++ ys)) h).1

-- masters
abbrev name_before : MasterPlan → MasterPlan → Bool
name_before a b = bytes_before a.name b.name

abbrev member_before : Member → Member → Bool
member_before a b = id_before a.id b.id

name_from : (master : MasterPlan) (masters : List MasterPlan) → All (λ other. one_first name_before master other ≡ true) masters
    → All (λ other. one_first name_before (nodes_in_order master) other ≡ true) (map nodes_in_order masters)
name_from master [] h = All-nil (λ other. one_first name_before (nodes_in_order master) other ≡ true)
name_from master (next ∷ masters) h =
    All-cons (λ other. one_first name_before (nodes_in_order master) other ≡ true) (nodes_in_order next) (map nodes_in_order masters)
    (All-head (λ other. one_first name_before master other ≡ true) next masters h)
    (name_from master masters (All-tail (λ other. one_first name_before master other ≡ true) next masters h))

names_apart : (masters : List MasterPlan) → Apart name_before masters → Apart name_before (map nodes_in_order masters)
names_apart [] a = tt
names_apart (master ∷ masters) a = (name_from master masters a.0, names_apart masters a.1)

-- each master with its nodes in order
listed : (masters : List MasterPlan) → repeats same_addr (flat_map (λ (master : MasterPlan). master.nodes) masters) ≡ false →
    AllZip IsSameMaster masters (map nodes_in_order masters)
listed [] h = tt
listed (master ∷ masters) h =
    let rest : List Addr = flat_map (λ (next : MasterPlan). next.nodes) masters in
    let own : repeats same_addr master.nodes ≡ false = repeats_front same_addr master.nodes rest h in (
      (refl, refl, in_order_permutes addr_before master.nodes (apart_of addr_before same_addr (λ a b. pair_total a.ip a.port b.ip b.port) master.nodes own)),
      listed masters (repeats_back same_addr master.nodes rest h),
    )

nodes_sorted : (masters : List MasterPlan) → All (λ (master : MasterPlan). IsSortedBy addr_before master.nodes) (map nodes_in_order masters)
nodes_sorted [] = All-nil (λ (master : MasterPlan). IsSortedBy addr_before master.nodes)
nodes_sorted (master ∷ masters) =
    All-cons (λ (next : MasterPlan). IsSortedBy addr_before next.nodes) (nodes_in_order master) (map nodes_in_order masters)
    (in_order_sorted addr_before addr_strict master.nodes) (nodes_sorted masters)

pub is_in_order : (given roster : Roster) → roster ≡ ordered given → IsInOrder roster
is_in_order given roster is =
    subst IsInOrder (sym is) (record {
      sentinels = in_order_sorted member_before (strict_by (λ (member : Member). member.id) id_before id_strict) given.sentinels;
      masters = in_order_sorted name_before (strict_by (λ (master : MasterPlan). master.name) bytes_before bytes_strict) (map nodes_in_order given.masters);
      nodes = λ m l. All-get_or (λ (master : MasterPlan). IsSortedBy addr_before master.nodes) (in_order name_before (map nodes_in_order given.masters)) m no_master l
          (in_order_all name_before (λ (master : MasterPlan). IsSortedBy addr_before master.nodes) (map nodes_in_order given.masters) (nodes_sorted given.masters));
    })

pub has_same_members : (given roster : Roster) → fault_of given ≡ None → roster ≡ ordered given → HasSameMembers given roster
has_same_members given roster fits is =
    let all = none_fits (tests given) fits in
    subst (HasSameMembers given) (sym is) (record {
      sentinels = in_order_permutes member_before given.sentinels
          (apart_of member_before (λ (a b : Member). same_id a.id b.id) (λ a b. pair_total a.id.hi a.id.lo b.id.hi b.id.lo) given.sentinels all.1.1.1.1.1.1.1.1.0);
      listed = map nodes_in_order given.masters;
      each = listed given.masters (repeats_back same_addr (map (λ (member : Member). member.addr) given.sentinels) (flat_map (λ (master : MasterPlan). master.nodes) given.masters)
          all.1.1.1.1.1.1.1.1.1.0);
      masters = in_order_permutes name_before (map nodes_in_order given.masters)
          (names_apart given.masters (apart_of name_before (λ (a b : MasterPlan). same_bytes a.name b.name) (λ a b. bytes_total a.name b.name) given.masters all.1.1.1.1.0));
    })
