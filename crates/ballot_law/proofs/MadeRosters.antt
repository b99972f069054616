-- Lists in order of members of which no fault fits are a roster.
use Rattle.std.proofs.Common.{◌≡◌, ◌≤◌, false, List, [], ◌∷◌, length, map, None, ap, sym, ◌∙◌, subst, arith}
use Rattle.std.specs.Prelude.{nat_lt, All}
use Rattle.std.specs.List.{list_any}
use Rattle.std.proofs.lemmas.Bool.{ltb-false, or_parts}
use Rattle.std.proofs.lemmas.List.{length-map}
use Rattle.std.proofs.lemmas.List.Elements.{All-nil, All-cons, All-get_or}
use Rattle.ballot_law.specs.declared.rosters.Member.{Member}
use Rattle.ballot_law.specs.declared.rosters.TheConstants.{NODES_MAX}
use Rattle.ballot_law.specs.Rosters.{Roster, MasterPlan, no_master, nodes_in_order, ordered}
use Rattle.ballot_law.specs.Orders.{addr_before, id_before, bytes_before}
use Rattle.ballot_law.specs.Ordered.{in_order}
use Rattle.ballot_law.specs.RosterFaults.{tests, fault_of, IsRoster}
use Rattle.ballot_law.proofs.Fits.{none_fits}
use Rattle.ballot_law.proofs.Placing.{in_order_len, in_order_all}

-- no master of the roster has many nodes
abbrev IsFewNodes : MasterPlan → Type 0
IsFewNodes master = length master.nodes ≤ NODES_MAX

few_by : (masters : List MasterPlan) → list_any (λ (master : MasterPlan). nat_lt 256 (length master.nodes)) masters ≡ false → All IsFewNodes (map nodes_in_order masters)
few_by [] h = All-nil IsFewNodes
few_by (master ∷ masters) h =
    let both = or_parts (nat_lt 256 (length master.nodes)) (list_any (λ (master : MasterPlan). nat_lt 256 (length master.nodes)) masters) h in
    let few : length master.nodes ≤ NODES_MAX = ltb-false NODES_MAX (length master.nodes) both.0 in
    let kept : length (in_order addr_before master.nodes) ≤ length master.nodes = in_order_len addr_before master.nodes in
    All-cons IsFewNodes (nodes_in_order master) (map nodes_in_order masters) (omega arith) (few_by masters both.1)

few_in_order : (given : Roster) → fault_of given ≡ None → All IsFewNodes (in_order (λ (a b : MasterPlan). bytes_before a.name b.name) (map nodes_in_order given.masters))
few_in_order given fits =
    let all = none_fits (tests given) fits in
    in_order_all (λ (a b : MasterPlan). bytes_before a.name b.name) IsFewNodes (map nodes_in_order given.masters)
    (few_by given.masters all.1.1.1.1.1.1.0)

-- what was given has no fault, and the lists are it in order
pub made_is : (given seen sentinels : List Member) (given_masters seen_masters sorted masters : List MasterPlan)
    → seen ≡ given → seen_masters ≡ given_masters
    → fault_of (record { sentinels = seen; masters = seen_masters }) ≡ None
    → sentinels ≡ in_order (λ (a b : Member). id_before a.id b.id) given
    → sorted ≡ map nodes_in_order given_masters
    → masters ≡ in_order (λ (a b : MasterPlan). bytes_before a.name b.name) sorted
    → (fault_of (record { sentinels = given; masters = given_masters }) ≡ None)
    × ((let r : Roster = record { sentinels = sentinels; masters = masters } in r) ≡ ordered (record { sentinels = given; masters = given_masters }))
made_is given seen sentinels given_masters seen_masters sorted masters s m fits s_is sorted_is m_is =
    let roster_of : List Member → List MasterPlan → Roster = λ a b. record { sentinels = a; masters = b } in
    let masters_are : masters ≡ in_order (λ (a b : MasterPlan). bytes_before a.name b.name) (map nodes_in_order given_masters) =
    m_is ∙ ap (in_order (λ (a b : MasterPlan). bytes_before a.name b.name)) sorted_is in (
      subst (λ b. fault_of (roster_of given b) ≡ None) m (subst (λ a. fault_of (roster_of a seen_masters) ≡ None) s fits),
      ap (λ a. roster_of a masters) s_is ∙ ap (roster_of (in_order (λ (a b : Member). id_before a.id b.id) given)) masters_are,
    )

pub made_in_order : (given seen sentinels : List Member) (given_masters seen_masters sorted masters : List MasterPlan)
    → seen ≡ given → seen_masters ≡ given_masters
    → fault_of (record { sentinels = seen; masters = seen_masters }) ≡ None
    → length seen ≤ 64 → length seen_masters ≤ 16
    → sentinels ≡ in_order (λ (a b : Member). id_before a.id b.id) given
    → sorted ≡ map nodes_in_order given_masters
    → masters ≡ in_order (λ (a b : MasterPlan). bytes_before a.name b.name) sorted
    → IsRoster (record { sentinels = sentinels; masters = masters })
made_in_order given seen sentinels given_masters seen_masters sorted masters s m fits few few_masters s_is sorted_is m_is =
    let s_len : length seen ≡ length given = ap length s in
    let m_len : length seen_masters ≡ length given_masters = ap length m in
    let s_le : length (in_order (λ (a b : Member). id_before a.id b.id) given) ≤ length given = in_order_len (λ (a b : Member). id_before a.id b.id) given in
    let m_le : length (in_order (λ (a b : MasterPlan). bytes_before a.name b.name) sorted) ≤ length sorted =
    in_order_len (λ (a b : MasterPlan). bytes_before a.name b.name) sorted in
    let sorted_len : length sorted ≡ length given_masters = ap length sorted_is ∙ length-map given_masters nodes_in_order in
    let s_is_len : length sentinels ≡ length (in_order (λ (a b : Member). id_before a.id b.id) given) = ap length s_is in
    let m_is_len : length masters ≡ length (in_order (λ (a b : MasterPlan). bytes_before a.name b.name) sorted) = ap length m_is in
    let given_roster : Roster = record { sentinels = given; masters = given_masters } in
    let made = made_is given seen sentinels given_masters seen_masters sorted masters s m fits s_is sorted_is m_is in
    let masters_are : masters ≡ in_order (λ (a b : MasterPlan). bytes_before a.name b.name) (map nodes_in_order given_masters) = ap (λ (r : Roster). r.masters) made.1 in
    record {
      few_sentinels = omega arith;
      few_masters = omega arith;
      few_nodes = λ m l. All-get_or IsFewNodes masters m no_master l (subst (λ list. All IsFewNodes list) (sym masters_are) (few_in_order given_roster made.0));
      made = ∣ record {
        given = given_roster;
        fits = made.0;
        in_order = made.1;
      } ∣₁;
    }
