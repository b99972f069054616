-- Texts read as files, one after the other.
use Rattle.std.proofs.Common.{◌≡◌, ℕ, suc, ◌-◌, ◌≤◌, List, [], ◌∷◌, ◌++◌, length, take, drop, get_or, Option, Some, None, Result, Ok, refl, ap, sym, ◌∙◌, arith, append_assoc}
use Rattle.std.proofs.lemmas.List.{take_all}
use Rattle.std.specs.Option.{option_map}
use Rattle.sentinel_conf.specs.Meaning.{ConfPlan}
use Rattle.sentinel_conf.specs.Reading.{conf_of_bytes}
use Rattle.conf_check.specs.Repair.GroupTexts.{joined, confs_of}

-- the file that was read last is the first of those that were left
pub joins : {F : Type 0} (done : List ConfPlan) (conf : ConfPlan) (new : List ConfPlan) (said : Result ConfPlan F) (found : Option (List ConfPlan)) → said ≡ Ok conf
    → new ≡ done ++ conf ∷ [] → option_map (λ others. done ++ others) (joined said found) ≡ option_map (λ others. new ++ others) found
joins done conf new said None r n = ap (λ t. option_map (λ others. done ++ others) (joined t None)) r
joins done conf new said (Some confs) r n =
    ap (λ t. option_map (λ others. done ++ others) (joined t (Some confs))) r
    ∙ ap Some (sym (append_assoc done (conf ∷ []) confs) ∙ ap (λ t. t ++ confs) (sym n))

-- one text more can be read
pub one_more : (all : Option (List ConfPlan)) (done : List ConfPlan) (rest : List (List ℕ)) (text : List ℕ) (conf : ConfPlan) (new : List ConfPlan)
    → 1 ≤ length rest → text ≡ get_or rest 0 text → conf_of_bytes text ≡ Ok conf → new ≡ done ++ conf ∷ []
    → all ≡ option_map (λ others. done ++ others) (confs_of rest) → all ≡ option_map (λ others. new ++ others) (confs_of (take (length rest - 1) (drop 1 rest)))
one_more all done [] text conf new l e r n h = absurd (omega arith)
one_more all done (x ∷ xs) text conf new l e r n h =
    let left : take (length (x ∷ xs) - 1) xs ≡ xs = take_all (length (x ∷ xs) - 1) xs (let k : length (x ∷ xs) ≡ suc (length xs) = refl in omega arith) in
    h
    ∙ ap (λ t. option_map (λ others. done ++ others) (joined (conf_of_bytes t) (confs_of xs))) (sym e)
    ∙ joins done conf new (conf_of_bytes text) (confs_of xs) r n
    ∙ ap (λ t. option_map (λ others. new ++ others) (confs_of t)) (sym left)
