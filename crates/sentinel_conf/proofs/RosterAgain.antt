-- The roster that the lines give is in order already.
use Rattle.std.proofs.Common.{◌≡◌, ℕ, Bool, true, false, ◌||◌, ◌&&◌, List, [], ◌∷◌, map, refl, ap, sym, ◌∙◌, None}
use Rattle.std.specs.List.{list_any, AllByRecursion, filter_map}
use Rattle.std.proofs.lemmas.Bool.{or_parts}
use Rattle.ballot_law.specs.declared.rosters.Member.{Member}
use Rattle.ballot_law.specs.Ordered.{add, in_order, repeats}
use Rattle.ballot_law.specs.Orders.{same_id, id_before, addr_before, bytes_before}
use Rattle.ballot_law.specs.Rosters.{Roster, MasterPlan, nodes_in_order, ordered}
use Rattle.ballot_law.specs.RosterFaults.{fault_of}
use Rattle.ballot_law.proofs.Placing.{add_before}
use Rattle.conf_lines.specs.declared.lines.StateLine.{StateLine}
use Rattle.sentinel_conf.specs.Meaning.{member_before, names_of, master_of, members_of, plan_of}
use Rattle.conf_lines.specs.Values.{name_of, node_of, known_of}
use Rattle.sentinel_conf.proofs.SetLemmas.{IsOrder}
use Rattle.ballot_law.proofs.Rising.{Rises, in_order_rises}
use Rattle.sentinel_conf.proofs.OrderLemmas.{addr_order, id_order, member_order, bytes_order}
use Rattle.sentinel_conf.proofs.ReadAgain.{no_fault, map_map, map_same}

abbrev IsOneWay : {X : Type 0} → (X → X → Bool) → Type 0
IsOneWay {X} before = (x y : X) → before x y ≡ true → before y x ≡ false

one_way_by : {X : Type 0} (before : X → X → Bool) (o : IsOrder before) (x y : X) (t : Bool) → before y x ≡ t → before x y ≡ true → before y x ≡ false
one_way_by before o x y true e h = let both : before x x ≡ true = o.strict.transitive x y x h e in let none : before x x ≡ false = o.strict.irreflexive x in cc
one_way_by before o x y false e h = e

one_way : {X : Type 0} (before : X → X → Bool) → IsOrder before → IsOneWay before
one_way before o = λ x y h. one_way_by before o x y (before y x) refl h

add_front : {X : Type 0} (before : X → X → Bool) → IsOneWay before → (x : X) (xs : List X) → AllByRecursion (λ y. before x y ≡ true) xs → add before x xs ≡ x ∷ xs
add_front before o x [] h = refl
add_front before o x (y ∷ ys) h = add_before before x y ys (o x y h.0) h.0

stays : {X : Type 0} (before : X → X → Bool) → IsOneWay before → (xs : List X) → Rises before xs → in_order before xs ≡ xs
stays before o [] h = refl
stays before o (x ∷ xs) h = ap (add before x) (stays before o xs h.1) ∙ add_front before o x xs h.0

rises_map : {X Y : Type 0} (before : X → X → Bool) (after : Y → Y → Bool) (f : X → Y) → ((x y : X) → before x y ≡ true → after (f x) (f y) ≡ true)
    → (xs : List X) → Rises before xs → Rises after (map f xs)
rises_map before after f g [] h = h
rises_map before after f g (x ∷ xs) h = (later x xs h.0, rises_map before after f g xs h.1) where
  later : (x : _) (xs : List _) → AllByRecursion (λ y. before x y ≡ true) xs → AllByRecursion (λ y. after (f x) y ≡ true) (map f xs)
  later x [] k = tt
  later x (y ∷ ys) k = (g x y k.0, later x ys k.1)

-- the order of Sentinels alone, by run id
abbrev by_id : Member → Member → Bool
by_id a b = id_before a.id b.id

abbrev one_id : Member → Member → Bool
one_id a b = same_id a.id b.id

id_first : (first same after : Bool) → (first || (same && after)) ≡ true → same ≡ false → first ≡ true
id_first true same after h e = refl
id_first false true after h e = cc
id_first false false after h e = h

ids_later : (a : Member) (xs : List Member) → AllByRecursion (λ b. member_before a b ≡ true) xs → list_any (one_id a) xs ≡ false → AllByRecursion (λ b. by_id a b ≡ true) xs
ids_later a [] h e = tt
ids_later a (b ∷ xs) h e = (
  id_first (id_before a.id b.id) (same_id a.id b.id) (addr_before a.addr b.addr) h.0 (or_parts (one_id a b) (list_any (one_id a) xs) e).0,
  ids_later a xs h.1 (or_parts (one_id a b) (list_any (one_id a) xs) e).1,
)

rises_ids : (xs : List Member) → Rises member_before xs → repeats one_id xs ≡ false → Rises by_id xs
rises_ids [] h e = h
rises_ids (a ∷ xs) h e =
    (ids_later a xs h.0 (or_parts (list_any (one_id a) xs) (repeats one_id xs) e).0, rises_ids xs h.1 (or_parts (list_any (one_id a) xs) (repeats one_id xs) e).1)

master_again : (states : List StateLine) (name : List ℕ) → nodes_in_order (master_of states name) ≡ master_of states name
master_again states name =
    let nodes = filter_map (node_of name) states in
    ap (λ t. let m : MasterPlan = record (master_of states name) { nodes = t } in m)
    (stays addr_before (one_way addr_before addr_order) (in_order addr_before nodes) (in_order_rises addr_before addr_order.strict nodes))

masters_again : (states : List StateLine) (names : List (List ℕ)) → map nodes_in_order (map (master_of states) names) ≡ map (master_of states) names
masters_again states names = sym (map_map (master_of states) nodes_in_order names) ∙
    map_same (λ n. nodes_in_order (master_of states n)) (master_of states) names (λ n i. master_again states n)

pub ordered_again : (own : Member) (states : List StateLine) → fault_of (plan_of own states) ≡ None → ordered (plan_of own states) ≡ plan_of own states
ordered_again own states h =
    let none = no_fault (plan_of own states) h in
    let members = members_of own states in
    let masters = map (master_of states) (names_of states) in
    let by_name : MasterPlan → MasterPlan → Bool = λ a b. bytes_before a.name b.name in
    let given = filter_map name_of states in
    ap (λ t. let p : Roster = record { sentinels = t; masters = in_order by_name (map nodes_in_order masters) } in p)
    (stays by_id (λ a b k. one_way id_before id_order a.id b.id k) members
    (rises_ids members (in_order_rises member_before member_order.strict (own ∷ filter_map known_of states)) none.ids))
    ∙ ap (λ t. let p : Roster = record { sentinels = members; masters = in_order by_name t } in p) (masters_again states (names_of states))
    ∙ ap (λ t. let p : Roster = record { sentinels = members; masters = t } in p)
    (stays by_name (λ a b k. one_way bytes_before bytes_order a.name b.name k) masters
    (rises_map bytes_before by_name (master_of states) (λ x y k. k) (names_of states) (in_order_rises bytes_before bytes_order.strict given)))
