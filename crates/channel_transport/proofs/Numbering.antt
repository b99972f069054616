-- The data nodes with the numbers below the count, and no others.
use Rattle.std.proofs.Common.{◌≡◌, ◌≢◌, ℕ, zero, suc, ◌+◌, ◌-◌, ◌<◌, ◌≤◌, Bool, true, false, cond, List, [], ◌∷◌, ◌++◌, length, Option, Some, None, refl, ap, sym, ◌∙◌, subst, arith, inl, inr, nat_lt, length-append}
use Rattle.std.specs.Prelude.{slice_get}
use Rattle.std.specs.List.{sum_by}
use Rattle.std.specs.Option.{option_map}
use Rattle.std.proofs.lemmas.Bool.{cases_lt, ltb-true, ltb-false}
use Rattle.std.proofs.lemmas.List.Sums.{sum_by-cons}
use Rattle.std.proofs.lemmas.Option.{slice_get_past}
use Rattle.ballot_law.specs.declared.node_places.NodePlace.{NodePlace}
use Rattle.ballot_law.specs.NodePlaces.{node_count, node_numbered}
use Rattle.ballot_law.specs.Rosters.{MasterPlan}
use Rattle.boxed_nodes.specs.Data.Nodes.{DataPlan, fresh_node, node_of}
use Rattle.sentinel_conf.specs.Meaning.{ConfPlan}
use Rattle.channel_transport.specs.DataNodes.{AreNodesOf}

abbrev nodes_in : MasterPlan → ℕ
nodes_in master = length master.nodes

found_here : (master : MasterPlan) (masters : List MasterPlan) (first number : ℕ) (here : Bool) → nat_lt number (length master.nodes) ≡ here
    → node_numbered (master ∷ masters) first number
    ≡ cond here (Some (record { master = first; place = number })) (node_numbered masters (first + 1) (number - length master.nodes))
found_here master masters first number here is =
    ap (λ (b : Bool). cond b (Some (record { master = first; place = number })) (node_numbered masters (first + 1) (number - length master.nodes))) is

-- none is found past the count
past_step : (master : MasterPlan) (masters : List MasterPlan) (first number : ℕ) (here : Bool) → nat_lt number (length master.nodes) ≡ here
    → length master.nodes + sum_by nodes_in masters ≤ number
    → (sum_by nodes_in masters ≤ number - length master.nodes → node_numbered masters (first + 1) (number - length master.nodes) ≡ None)
    → node_numbered (master ∷ masters) first number ≡ None
past_step master masters first number true is past rest = let less = ltb-true number (length master.nodes) is in absurd (omega (arith, less, past))
past_step master masters first number false is past rest = found_here master masters first number false is ∙ rest (omega (arith, past))

past : (masters : List MasterPlan) (first number : ℕ) → sum_by nodes_in masters ≤ number → node_numbered masters first number ≡ None
past [] first number beyond = refl
past (master ∷ masters) first number beyond =
    past_step master masters first number (nat_lt number (length master.nodes)) refl
    (subst (λ (n : ℕ). n ≤ number) (sum_by-cons nodes_in master masters) beyond) (past masters (first + 1) (number - length master.nodes))

-- one is found below the count
below_step : (master : MasterPlan) (masters : List MasterPlan) (first number : ℕ) (here : Bool) → nat_lt number (length master.nodes) ≡ here
    → number < length master.nodes + sum_by nodes_in masters
    → (number - length master.nodes < sum_by nodes_in masters → node_numbered masters (first + 1) (number - length master.nodes) ≢ None)
    → node_numbered (master ∷ masters) first number ≢ None
below_step master masters first number true is less rest e =
    absurd (let no : ⊥ = (let found = found_here master masters first number true is in cc) in no)
below_step master masters first number false is less rest e =
    let beyond = ltb-false number (length master.nodes) is in
    rest (omega (arith, less, beyond)) (sym (found_here master masters first number false is) ∙ e)

below : (masters : List MasterPlan) (first number : ℕ) → number < sum_by nodes_in masters → node_numbered masters first number ≢ None
below [] first number less = absurd (omega (arith, less))
below (master ∷ masters) first number less =
    below_step master masters first number (nat_lt number (length master.nodes)) refl
    (subst (λ (n : ℕ). number < n) (sum_by-cons nodes_in master masters) less) (below masters (first + 1) (number - length master.nodes))

-- a number below the count has a node
mapped : (conf : ConfPlan) (number : ℕ) (found : Option NodePlace) → option_map (fresh_node conf number) found ≡ None → found ≡ None
mapped conf number None e = refl
mapped conf number (Some at) e = absurd (let no : ⊥ = cc in no)

pub has_node : (conf : ConfPlan) (number : ℕ) → number < node_count conf.roster → node_of conf number ≢ None
has_node conf number less e = below conf.roster.masters 0 number less (mapped conf number (node_numbered conf.roster.masters 0 number) e)

-- no node is past the count
pub no_node : (conf : ConfPlan) (number : ℕ) → node_count conf.roster ≤ number → node_of conf number ≡ None
no_node conf number beyond = ap (option_map (fresh_node conf number)) (past conf.roster.masters 0 number beyond)

-- one node more
get_before : {X : Type 0} (xs : List X) (x : X) (k : ℕ) → k < length xs → slice_get (xs ++ x ∷ []) k ≡ slice_get xs k
get_before [] x k less = absurd (omega (arith, less))
get_before (y ∷ ys) x zero less = refl
get_before (y ∷ ys) x (suc k) less = get_before ys x k (omega (arith, less))

get_last : {X : Type 0} (xs : List X) (x : X) → slice_get (xs ++ x ∷ []) (length xs) ≡ Some x
get_last [] x = refl
get_last (y ∷ ys) x = get_last ys x

pub one_more : (conf : ConfPlan) (nodes : List DataPlan) (node : DataPlan) → ((k : ℕ) → k < length nodes → slice_get nodes k ≡ node_of conf k)
    → Some node ≡ node_of conf (length nodes) → (k : ℕ) → k < length (nodes ++ node ∷ []) → slice_get (nodes ++ node ∷ []) k ≡ node_of conf k
one_more conf nodes node each is k less =
    elim (cases_lt k (length nodes)) as (λ _. slice_get (nodes ++ node ∷ []) k ≡ node_of conf k) [
      | inl before ↦ get_before nodes node k before ∙ each k before
      | inr beyond ↦
          let last : k ≡ length nodes = omega (arith, length-append nodes (node ∷ []), less, beyond) in
          subst (λ (n : ℕ). slice_get (nodes ++ node ∷ []) n ≡ node_of conf n) (sym last) (get_last nodes node ∙ is)
    ]

-- the nodes of all numbers up to the count are those of the conf
pub all_nodes : (conf : ConfPlan) (nodes : List DataPlan) → length nodes ≡ node_count conf.roster
    → ((k : ℕ) → k < length nodes → slice_get nodes k ≡ node_of conf k) → AreNodesOf conf nodes
all_nodes conf nodes long each =
    record {
      count = long;
      each = λ number. elim (cases_lt number (length nodes)) as (λ _. slice_get nodes number ≡ node_of conf number) [
        | inl less ↦ each number less
        | inr beyond ↦ slice_get_past nodes number beyond ∙ sym (no_node conf number (subst (λ (n : ℕ). n ≤ number) long beyond))
      ];
    }
