-- How many masters a file holds, and which master a search finds.
use Rattle.std.proofs.Common.{◌≡◌, suc, ◌≤◌, List, [], ◌∷◌, length, refl, ap, arith}
use Rattle.std.specs.List.{AllZip}
use Rattle.ballot_law.specs.declared.rosters.TheConstants.{MASTERS_MAX}
use Rattle.sentinel_conf.specs.Facts.{IsSoundConf}
use Rattle.sentinel_conf.specs.Meaning.{ConfPlan}

as_many : {A B : Type 0} (R : A → B → Type 0) (xs : List A) (ys : List B) → AllZip R xs ys → length xs ≡ length ys
as_many R [] [] h = refl
as_many R [] (y ∷ ys) h = absurd h
as_many R (x ∷ xs) [] h = absurd h
as_many R (x ∷ xs) (y ∷ ys) h = ap suc (as_many R xs ys h.1)

-- a file holds as much of each master as there are masters
pub few_kept : (conf : ConfPlan) → IsSoundConf conf → length conf.kept.masters ≤ MASTERS_MAX
few_kept conf sound =
    let same : length conf.roster.masters ≡ length conf.kept.masters = as_many _ conf.roster.masters conf.kept.masters sound.kept.masters in
    let few : length conf.roster.masters ≤ MASTERS_MAX = sound.few_masters in
    omega arith
