-- The numbers of the data nodes, counted over the masters.
use Rattle.std.proofs.Common.{◌≡◌, ℕ, zero, suc, ◌≤◌, ◌<◌, ◌+◌, ◌-◌, ◌*◌, List, [], ◌∷◌, length, refl, ap, sym, ◌∙◌, arith, add-one}
use Rattle.std.specs.Prelude.{Option, Some, None, IfSome, IfNone, slice_index_or}
use Rattle.ballot_law.specs.declared.node_places.NodePlace.{NodePlace}
use Rattle.ballot_law.specs.declared.rosters.TheConstants.{MASTERS_MAX, NODES_MAX}
use Rattle.ballot_law.specs.Rosters.{MasterPlan, no_master}
use Rattle.sentinel_conf.specs.Facts.{IsSoundConf}
use Rattle.sentinel_conf.specs.Meaning.{ConfPlan}
use Rattle.ballot_law.specs.NodePlaces.{first_number}

-- each of these masters has at most 256 data nodes
pub record HasFewNodes (masters : List MasterPlan) : Type 0 where
  pub few : (m : ℕ) → m < length masters → length (slice_index_or masters m no_master).nodes ≤ NODES_MAX

few_rest : (master : MasterPlan) (masters : List MasterPlan) → HasFewNodes (master ∷ masters) → HasFewNodes masters
few_rest master masters h = record { few = λ m k. h.few (suc m) (omega (arith, k)) }

few_first : (master : MasterPlan) (masters : List MasterPlan) → HasFewNodes (master ∷ masters) → length master.nodes ≤ NODES_MAX
few_first master masters h = h.few 0 (omega arith)

first_number_few : (masters : List MasterPlan) (m : ℕ) → HasFewNodes masters → first_number masters m ≤ NODES_MAX * length masters
first_number_few [] m h = omega arith
first_number_few (master ∷ masters) zero h = omega arith
first_number_few (master ∷ masters) (suc m) h =
    let first : length master.nodes ≤ NODES_MAX = few_first master masters h in
    let rest : first_number masters m ≤ NODES_MAX * length masters = first_number_few masters m (few_rest master masters h) in
    omega arith

pub first_number_zero : (masters : List MasterPlan) → first_number masters 0 ≡ 0
first_number_zero [] = refl
first_number_zero (master ∷ masters) = refl

-- one master more
next_number : (masters : List MasterPlan) (m : ℕ)
    → first_number masters (suc m) ≡ first_number masters m + length (slice_index_or masters m no_master).nodes
next_number [] m = refl
next_number (master ∷ masters) zero =
    let e : first_number masters 0 ≡ 0 = first_number_zero masters in
    omega arith
next_number (master ∷ masters) (suc m) =
    let e : first_number masters (suc m) ≡ first_number masters m + length (slice_index_or masters m no_master).nodes = next_number masters m in
    omega arith

pub first_number_more : (masters : List MasterPlan) (m : ℕ)
    → first_number masters (m + 1) ≡ first_number masters m + length (slice_index_or masters m no_master).nodes
first_number_more masters m = ap (first_number masters) (add-one m) ∙ next_number masters m

-- all data nodes are at most 16 times 256
pub first_number_small : (conf : ConfPlan) (m : ℕ) → IsSoundConf conf → first_number conf.roster.masters m ≤ 4096
first_number_small conf m sound =
    let few : first_number conf.roster.masters m ≤ NODES_MAX * length conf.roster.masters = first_number_few conf.roster.masters m (record { few = sound.few_nodes }) in
    let masters : length conf.roster.masters ≤ MASTERS_MAX = sound.few_masters in
    omega arith

-- what a search finds, told by cases
pub found_some : (found wanted : Option NodePlace) → found ≡ wanted → IfSome found (λ at. wanted ≡ Some (record { master = at.master; place = at.place }))
found_some None wanted e = tt
found_some (Some at) wanted e = sym e

pub found_none : (found wanted : Option NodePlace) → found ≡ wanted → IfNone found (wanted ≡ None)
found_none None wanted e = sym e
found_none (Some at) wanted e = tt

pub found_few : (found : Option NodePlace) → IfSome found (λ at. at.place < NODES_MAX) → IfSome found (λ at. at.place ≤ NODES_MAX)
found_few None h = tt
found_few (Some at) h = omega (arith, h)
